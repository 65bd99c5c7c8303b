-- Each statement is placed as a plan asks.
use Rattle.std.proofs.Common.{◌≡◌, ℕ, zero, suc, true, List, Option, Some, None, slice_get, refl, sym, ap, ◌∙◌, subst}
use Rattle.std.proofs.lemmas.Option.{same_Some}
use Rattle.px_value.specs.declared.header.Kind.{Kind}
use Rattle.px_value.specs.declared.header.Kind.TheVariants as kind
use Rattle.px_normal.specs.declared.ty.Ty.TheVariants as ty
use Rattle.px_normal.specs.declared.word.Operand.TheVariants.{Slot, Literal}
use Rattle.px_normal.specs.declared.word.Word.{Word}
use Rattle.px_normal.specs.declared.word.Word.TheVariants as w
use Rattle.px_normal.specs.declared.code.Site.{Site}
use Rattle.px_normal.specs.declared.code.Code.{Code}
use Rattle.px_flow_points.specs.declared.part.Part.TheVariants as part
use Rattle.px_flow_points.specs.Statements.{HasStatement}
use Rattle.px_flow_points.specs.Places.{site_kind, kind_of_site}
use Rattle.px_flow_points.specs.ByNode.{Found}
use Rattle.px_flow_points.proofs.Typing.{word_in, slot_in, places, object_site}
use Rattle.px_blocks.specs.declared.side.Side.{Side}
use Rattle.px_blocks.specs.declared.side.Side.TheVariants.{App}
use Rattle.px_blocks.specs.declared.block.Deed.{Deed}
use Rattle.px_blocks.specs.declared.block.Deed.TheVariants as deed
use Rattle.px_blocks.specs.declared.block.Send.{Send}
use Rattle.px_blocks.specs.declared.block.Blocks.{Blocks}
use Rattle.px_blocks.specs.declared.placed.Placed.{Placed}
use Rattle.px_blocks.specs.Sides.{other}
use Rattle.px_blocks.specs.Rules.{side_of, send_of as send_at}
use Rattle.px_blocks.specs.Has.{HasStatement as HasDeed}
use Rattle.px_blocks.specs.Plan.{Field, Elements, Plan}
use Rattle.px_sync.specs.Homes.{field_node, part_node, home_node, home, field_home}
use Rattle.px_sync.specs.Keeps.{read_there}
use Rattle.px_sync.specs.Sends.{send_after, NeedsSend, IsRightSend}
use Rattle.px_sync.specs.Sends as sync
use Rattle.px_sync.proofs.Keeping.{keeps_to, keeps_back}
use Rattle.px_ends.specs.Sends.{Reach, wrote_of, MayWrite, send_of, kind_at, is_print, IsPlaced, PlacedDeed}
use Rattle.px_ends.specs.Fits.{leads_of}
use Rattle.px_sound_plans.specs.Plans.{part_in, plan_of, points_of}
use Rattle.px_sound_plans.specs.Laws.{IsPlacedWell, PlacedByMethod}
use Rattle.px_sound_plans.proofs.Led.{led_to, leads, read_by, wrote_by}
use Rattle.px_sound_plans.proofs.StatementsOf.{statement_of}

-- ---- homes

object_class : (a b : ℕ) → Some (kind.Object a) ≡ Some (kind.Object b) → a ≡ b
object_class a b e = cc

home_in : (code : Code) (x : Site) (class place : ℕ) → x.kind ≡ kind.Object class → part_node code x.kind x.node (part.Field place) ≡ field_node code class place
home_in code x class place e = ap (λ (k : Kind). part_node code k x.node (part.Field place)) e

pub home_is : (code : Code) (s class place : ℕ) → site_kind code s ≡ Some (kind.Object class) → home_node code s (part.Field place) ≡ field_node code class place
home_is code zero class place e = ap (λ c. field_node code c place) (object_class code.main class e)
home_is code (suc n) class place e = by_lookup (slice_get code.sites n) refl e
  where
    by_lookup : (o : Option Site) → slice_get code.sites n ≡ o → kind_of_site o ≡ Some (kind.Object class) → home_node code (suc n) (part.Field place) ≡ field_node code class place
    by_lookup None q h = cc
    by_lookup (Some x) q h = ap (λ (o : Option Site). Rattle.px_sync.specs.Homes.site_node code o (part.Field place)) q ∙ home_in code x class place (same_Some x.kind (kind.Object class) h)

same_kind : (side : Side) → sync.kind_at side ≡ kind_at side
same_kind App = refl
same_kind Rattle.px_blocks.specs.declared.side.Side.TheVariants.Db = refl

module _ (code : Code) (found : Found) (sides : List Side) (placed : Placed) (blocks : Blocks) (W : IsPlacedWell code found sides placed) where
  abbrev plan : Plan
  plan = plan_of code sides found blocks

  -- the send after a word is the one that a plan asks for
  after_is : (m node : ℕ) (word : Word) → HasStatement code m node word → (r : Reach) → wrote_of word ≡ Some r → (s : ℕ) → MayWrite (leads code found.sets W.exist W.points m) word r s → send_after code sides word ≡ Some (send_of plan word r s)
  after_is m node (w.Put (Slot n) class field a) has r e s l =
      let x = word_in code W.typed m node (w.Put (Slot n) class field a) has in
      let t = x.ok in
      let k = object_site code W.typed m n s class (slot_in code W.typed m n (ty.Object class) x.method x.is t.1) (places code W.typed _ s (led_to code found.sets W.exist W.points m n s (W.exist.words has).0 (lead_of e l))) in
      let h : home code sides s (part.Field field) ≡ field_home code sides class field = ap (λ (j : ℕ). side_of sides j) (home_is code s class field k) in
      let word : Word = w.Put (Slot n) class field a in
      let r0 : Reach = record { of = Slot n; part = Field field } in
      ap (λ (side : Side). sync.send (sync.kind_at side) (Slot n)) (sym h)
      ∙ ap (λ z. sync.send z (Slot n)) (same_kind (home code sides s (part.Field field)))
      ∙ ap (λ (z : Reach). Some (send_of plan word z s)) (same_Some r0 r e)
    where
      lead_of : {r : Reach} → Some (record { of = Slot n; part = Field field }) ≡ Some r → leads_of (points_of code found.sets) m r.of s ≡ true → leads_of (points_of code found.sets) m (Slot n) s ≡ true
      lead_of {r} e l = subst (λ (z : Reach). leads_of (points_of code found.sets) m z.of s ≡ true) (sym (same_Some (record { of = Slot n; part = Field field }) r e)) l
  after_is m node (w.Put (Literal v) class field a) has r e s l = absurd (no_lead (subst (λ (z : Reach). leads_of (points_of code found.sets) m z.of s ≡ true) (sym (same_Some (record { of = Literal v; part = Field field }) r e)) l))
    where
      no_lead : leads_of (points_of code found.sets) m (Literal v) s ≡ true → ⊥
      no_lead l = cc
  after_is m node (w.Store of i a) has r e s l = ap (λ (z : Reach). Some (send_of plan (w.Store of i a) z s)) (same_Some (record { of = of; part = Elements }) r e)
  after_is m node (w.Next to of) has r e s l = ap (λ (z : Reach). Some (send_of plan (w.Next to of) z s)) (same_Some (record { of = of; part = Elements }) r e)
  after_is m node (w.Query to number site params) has r e s l = ap (λ (z : Reach). Some (send_of plan (w.Query to number site params) z s)) (same_Some (record { of = Slot to; part = Elements }) r e)
  after_is m node (w.Get to a class field) has r e s l = cc
  after_is m node (w.Load to a i) has r e s l = cc
  after_is m node (w.Long to a i) has r e s l = cc
  after_is m node (w.Text to a i) has r e s l = cc
  after_is m node (w.Set to a) has r e s l = cc
  after_is m node (w.Op o to a b) has r e s l = cc
  after_is m node (w.Len to of) has r e s l = cc
  after_is m node (w.New to class site) has r e s l = cc
  after_is m node (w.Array to element n site) has r e s l = cc
  after_is m node (w.Call to of callee args) has r e s l = cc
  after_is m node (w.Update to number params) has r e s l = cc
  after_is m node (w.Print a) has r e s l = cc
  after_is m node (w.Return a) has r e s l = cc

  -- where a send is needed there is the right one
  right_is : (o : Option Send) (node : ℕ) (word : Word) (x : Send) → IsRightSend code sides node word o → NeedsSend code sides node → send_after code sides word ≡ Some x → o ≡ Some x
  right_is None node word x right n e = absurd (right n)
  right_is (Some s) node word x right n e = sym right.1 ∙ e

  prints_at : (m node : ℕ) (word : Word) → HasStatement code m node word → is_print word ≡ true → side_of sides node ≡ App
  prints_at m node (w.Print a) has e = W.prints m node a has
  prints_at m node (w.Put of class field a) has e = cc
  prints_at m node (w.Store of i a) has e = cc
  prints_at m node (w.Next to of) has e = cc
  prints_at m node (w.Query to number site params) has e = cc
  prints_at m node (w.Get to a class field) has e = cc
  prints_at m node (w.Load to a i) has e = cc
  prints_at m node (w.Long to a i) has e = cc
  prints_at m node (w.Text to a i) has e = cc
  prints_at m node (w.Set to a) has e = cc
  prints_at m node (w.Op o to a b) has e = cc
  prints_at m node (w.Len to of) has e = cc
  prints_at m node (w.New to class site) has e = cc
  prints_at m node (w.Array to element n site) has e = cc
  prints_at m node (w.Call to of callee args) has e = cc
  prints_at m node (w.Update to number params) has e = cc
  prints_at m node (w.Return a) has e = cc

  word_placed : (m node : ℕ) (word : Word) → HasStatement code m node word → IsPlaced plan (leads_of (points_of code found.sets) m) (side_of sides node) (send_at placed.sends node) word
  word_placed m node word has = record {
    reads = λ r e s l. keeps_back code sides found W.touched (side_of sides node) s (part_in r.part) (read_there node refl (read_by code found.sets W.exist W.points m node word has r e s l));
    sends = λ r e s l k. right_is (send_at placed.sends node) node word (send_of plan word r s)
        (W.sends.right m node word has (W.own m node word has))
        (record { site = s; part = part_in r.part; writes = wrote_by code found.sets W.exist W.points m node word has r e s l; kept = keeps_to code sides found W.touched (other (side_of sides node)) s (part_in r.part) k })
        (after_is m node word has r e s l);
    prints = prints_at m node word has;
  }

  deed_placed : (m node : ℕ) (d : Deed) → HasDeed code m node d → PlacedDeed plan (leads_of (points_of code found.sets) m) (side_of sides node) (send_at placed.sends node) d
  deed_placed m node (deed.Does word) has = word_placed m node word (statement_of code m node word has)
  deed_placed m node (deed.Chooses a) has = tt
  deed_placed m node (deed.Tests a) has = tt

pub placed_by_method : PlacedByMethod
placed_by_method code found sides placed blocks W m node d has = subst (λ (z : List Side). PlacedDeed (plan_of code sides found blocks) (leads_of (points_of code found.sets) m) (side_of z node) (send_at placed.sends node) d) (sym W.sends.sides_are) (deed_placed code found sides placed blocks W m node d has)
