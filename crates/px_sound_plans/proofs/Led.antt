-- Where the operands of statements may lead, and what statements read and write by that.
use Rattle.std.proofs.Common.{◌≡◌, ℕ, zero, suc, nat_eq, true, List, Some, refl, sym, subst, arith}
use Rattle.std.proofs.lemmas.Option.{same_Some}
use Rattle.px_constraints.specs.System.{At}
use Rattle.px_value.specs.declared.value.Value.{Value}
use Rattle.px_normal.specs.declared.ty.Ty.{Ty}
use Rattle.px_normal.specs.declared.word.Operand.TheVariants.{Slot, Literal}
use Rattle.px_normal.specs.declared.word.Word.{Word}
use Rattle.px_normal.specs.declared.word.Word.TheVariants as w
use Rattle.px_normal.specs.declared.code.Code.{Code}
use Rattle.px_flow_points.specs.declared.part.Part.{Part as PartOf}
use Rattle.px_flow_points.specs.Statements.{HasStatement}
use Rattle.px_flow_points.specs.Places.{HasSlot, HasPart, slot_ty}
use Rattle.px_flow_points.specs.Points.{InSlot, InPart, PointsTo, ReadsPart, WritesPart}
use Rattle.px_flow_points.specs.Points as points
use Rattle.px_flow_points.specs.There.{NumbersExist}
use Rattle.px_flow_points.specs.Exact.{PointsOf, slot_set, cell_set, ArePoints}
use Rattle.px_flow_points.specs.ByNode.{ReadsAt, WritesAt}
use Rattle.px_flow_points.proofs.TouchWhere.{equal_numbers}
use Rattle.px_blocks.specs.Plan.{Field, Elements}
use Rattle.px_sync.proofs.Truths.{any_to, any_back}
use Rattle.px_ends.specs.Sends.{Reach, read_of, wrote_of, MayWrite, Leads}
use Rattle.px_ends.specs.Fits.{leads_of}
use Rattle.px_sound_plans.specs.Plans.{part_in, has_site, at_slot, points_of}

-- ---- lists of sites

self_number : (n : ℕ) → nat_eq n n ≡ true
self_number n = grind arith

pub sites_to : (s : ℕ) (sites : List ℕ) → has_site s sites ≡ true → At sites s
sites_to s sites h = let r = any_to (nat_eq s) sites h in subst (At sites) (sym (equal_numbers s r.item r.passes)) r.at

pub sites_back : (s : ℕ) (sites : List ℕ) → At sites s → has_site s sites ≡ true
sites_back s sites h = any_back (nat_eq s) sites s h (self_number s)

module _ (code : Code) (P : PointsOf) (E : NumbersExist code) (A : ArePoints code P) where
  -- ---- slots and parts

  no_slot : (k : ℕ) (t : Ty) → slot_ty code 0 k ≡ Some t → ⊥
  no_slot k t h = cc

  pub led_to : (m k s : ℕ) → HasSlot code m k → at_slot P m k s ≡ true → PointsTo code (InSlot m k) s
  led_to zero k s h e = absurd (no_slot k h.0 h.1)
  led_to (suc i) k s h e = (A.slots (suc i) k s h).to (sites_to s (slot_set P (suc i) k) e)

  pub led_back : (m k s : ℕ) → HasSlot code m k → PointsTo code (InSlot m k) s → at_slot P m k s ≡ true
  led_back zero k s h p = refl
  led_back (suc i) k s h p = sites_back s (slot_set P (suc i) k) ((A.slots (suc i) k s h).back p)

  pub part_to : (s t : ℕ) (part : PartOf) → HasPart code s part → has_site t (cell_set P s part) ≡ true → PointsTo code (InPart s part) t
  part_to s t part h e = (A.parts s t part h).to (sites_to t (cell_set P s part) e)

  pub part_back : (s t : ℕ) (part : PartOf) → HasPart code s part → PointsTo code (InPart s part) t → has_site t (cell_set P s part) ≡ true
  part_back s t part h p = sites_back t (cell_set P s part) ((A.parts s t part h).back p)

  -- ---- what statements read

  abbrev pub leads : ℕ → Leads
  leads m = leads_of (points_of code P) m

  module _ (m node : ℕ) where
    -- a statement of the node reads what the operand may lead to
    abbrev ReadsBy : Reach → Type 0
    ReadsBy r = (s : ℕ) → leads m r.of s ≡ true → ReadsAt code node s (part_in r.part)

    abbrev as_reads : (r0 r : Reach) → ReadsBy r0 → Some r0 ≡ Some r → ReadsBy r
    as_reads r0 r g e = subst ReadsBy (same_Some r0 r e) g

    pub read_by : (word : Word) → HasStatement code m node word → (r : Reach) → read_of word ≡ Some r → ReadsBy r
    read_by (w.Get to (Slot n) class field) has r e = as_reads (record { of = Slot n; part = Field field }) r (λ s l. record { method = m; word = w.Get to (Slot n) class field; has = has; reads = points.ReadsPart.get (led_to m n s (E.words has).1 l) }) e
    read_by (w.Get to (Literal v) class field) has r e = as_reads (record { of = Literal v; part = Field field }) r (λ s l. cc) e
    read_by (w.Load to (Slot n) i) has r e = as_reads (record { of = Slot n; part = Elements }) r (λ s l. record { method = m; word = w.Load to (Slot n) i; has = has; reads = points.ReadsPart.load (led_to m n s (E.words has).1 l) }) e
    read_by (w.Load to (Literal v) i) has r e = as_reads (record { of = Literal v; part = Elements }) r (λ s l. cc) e
    read_by (w.Next to (Slot n)) has r e = as_reads (record { of = Slot n; part = Elements }) r (λ s l. record { method = m; word = w.Next to (Slot n); has = has; reads = points.ReadsPart.next (led_to m n s (E.words has) l) }) e
    read_by (w.Next to (Literal v)) has r e = as_reads (record { of = Literal v; part = Elements }) r (λ s l. cc) e
    read_by (w.Long to (Slot n) i) has r e = as_reads (record { of = Slot n; part = Elements }) r (λ s l. record { method = m; word = w.Long to (Slot n) i; has = has; reads = points.ReadsPart.long (led_to m n s (E.words has) l) }) e
    read_by (w.Long to (Literal v) i) has r e = as_reads (record { of = Literal v; part = Elements }) r (λ s l. cc) e
    read_by (w.Text to (Slot n) i) has r e = as_reads (record { of = Slot n; part = Elements }) r (λ s l. record { method = m; word = w.Text to (Slot n) i; has = has; reads = points.ReadsPart.text (led_to m n s (E.words has) l) }) e
    read_by (w.Text to (Literal v) i) has r e = as_reads (record { of = Literal v; part = Elements }) r (λ s l. cc) e
    read_by (w.Set to a) has r e = cc
    read_by (w.Op o to a b) has r e = cc
    read_by (w.Put of class field a) has r e = cc
    read_by (w.Store of i a) has r e = cc
    read_by (w.Len to of) has r e = cc
    read_by (w.New to class site) has r e = cc
    read_by (w.Array to element n site) has r e = cc
    read_by (w.Call to of callee args) has r e = cc
    read_by (w.Query to number site params) has r e = cc
    read_by (w.Update to number params) has r e = cc
    read_by (w.Print a) has r e = cc
    read_by (w.Return a) has r e = cc

    -- ---- what statements write

    abbrev WritesBy : Word → Reach → Type 0
    WritesBy word r = (s : ℕ) → MayWrite (leads m) word r s → WritesAt code node s (part_in r.part)

    abbrev as_writes : (word : Word) (r0 r : Reach) → WritesBy word r0 → Some r0 ≡ Some r → WritesBy word r
    as_writes word r0 r g e = subst (WritesBy word) (same_Some r0 r e) g

    no_lead : (v : Value) (s : ℕ) → leads m (Literal v) s ≡ true → ⊥
    no_lead v s l = cc

    pub wrote_by : (word : Word) → HasStatement code m node word → (r : Reach) → wrote_of word ≡ Some r → WritesBy word r
    wrote_by (w.Put (Slot n) class field a) has r e = as_writes (w.Put (Slot n) class field a) (record { of = Slot n; part = Field field }) r (λ s l. record { method = m; word = w.Put (Slot n) class field a; has = has; writes = points.WritesPart.put (led_to m n s (E.words has).0 l) }) e
    wrote_by (w.Put (Literal v) class field a) has r e = as_writes (w.Put (Literal v) class field a) (record { of = Literal v; part = Field field }) r (λ s l. absurd (no_lead v s l)) e
    wrote_by (w.Store (Slot n) i a) has r e = as_writes (w.Store (Slot n) i a) (record { of = Slot n; part = Elements }) r (λ s l. record { method = m; word = w.Store (Slot n) i a; has = has; writes = points.WritesPart.store (led_to m n s (E.words has).0 l) }) e
    wrote_by (w.Store (Literal v) i a) has r e = as_writes (w.Store (Literal v) i a) (record { of = Literal v; part = Elements }) r (λ s l. absurd (no_lead v s l)) e
    wrote_by (w.Next to (Slot n)) has r e = as_writes (w.Next to (Slot n)) (record { of = Slot n; part = Elements }) r (λ s l. record { method = m; word = w.Next to (Slot n); has = has; writes = points.WritesPart.next (led_to m n s (E.words has) l) }) e
    wrote_by (w.Next to (Literal v)) has r e = as_writes (w.Next to (Literal v)) (record { of = Literal v; part = Elements }) r (λ s l. absurd (no_lead v s l)) e
    wrote_by (w.Query to number site params) has r e = as_writes (w.Query to number site params) (record { of = Slot to; part = Elements }) r (λ s l. record { method = m; word = w.Query to number site params; has = has; writes = subst (λ z. WritesPart code m (w.Query to number site params) z (part_in Elements)) (sym l) points.WritesPart.query }) e
    wrote_by (w.Get to a class field) has r e = cc
    wrote_by (w.Load to a i) has r e = cc
    wrote_by (w.Long to a i) has r e = cc
    wrote_by (w.Text to a i) has r e = cc
    wrote_by (w.Set to a) has r e = cc
    wrote_by (w.Op o to a b) has r e = cc
    wrote_by (w.Len to of) has r e = cc
    wrote_by (w.New to class site) has r e = cc
    wrote_by (w.Array to element n site) has r e = cc
    wrote_by (w.Call to of callee args) has r e = cc
    wrote_by (w.Update to number params) has r e = cc
    wrote_by (w.Print a) has r e = cc
    wrote_by (w.Return a) has r e = cc
