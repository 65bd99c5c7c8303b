-- Between two calls.
use Rattle.std.proofs.Common.{◌≡◌, ℕ, zero, suc, ◌+◌, ◌≤◌, Bool, true, false, ◌&&◌, List, [], ◌∷◌, ◌++◌, map, drop, length, Some, nat_lt, nat_le, refl, sym, ap, subst, ◌∙◌, arith, lt-ltb, le-leb}
use Rattle.std.specs.List.{AllByRecursion}
use Rattle.std.specs.Option.{option_map}
use Rattle.px_value.specs.declared.value.Value.{Value}
use Rattle.px_value.specs.declared.value.Value.TheVariants as v
use Rattle.px_value.specs.declared.object.Object.{Object}
use Rattle.px_value.specs.declared.header.Header.{Header}
use Rattle.px_value.specs.declared.ty.Ty.{Ty}
use Rattle.px_value.specs.declared.ty.Ty.TheVariants as ty
use Rattle.px_value.specs.Defaults.{default_of}
use Rattle.px_value.specs.Heap.{header_of}
use Rattle.px_code.specs.declared.side.Side.TheVariants.{App}
use Rattle.px_code.specs.declared.frame.Slot.{Slot}
use Rattle.px_code.specs.declared.plan.Plan.{Plan}
use Rattle.px_code.specs.CodeRun.{method_at}
use Rattle.px_code.specs.Frames.{blank, entry_slots, types_of}
use Rattle.px_code.specs.Fits.{header_at}
use Rattle.px_code.specs.Machine.{just_written}
use Rattle.px_code.specs.Sound.{IsNoReference, entered}
use Rattle.px_half.specs.Absorbed.{leads, frame_fits, blank_slots, with_cells}
use Rattle.px_pair.specs.Crossing.{SlotsLike, FramesLike, bare, HeapCrossed}
use Rattle.px_pair.specs.Sessions.{NewRests, attending, CallsBegin, CommitsKeep}
use Rattle.px_pair.proofs.HeapCrossing.{heap_crosses}

pub new_rests : NewRests
new_rests plan heap = record {
  app_headers = λ o. refl;
  db_headers = λ o. refl;
  copies = λ o i. record { app_there = refl; db_there = refl; app_kept = λ k. refl; db_kept = λ k. refl };
}

-- ---- a commit

pub commits_keep : CommitsKeep
commits_keep plan near far one u agree fits are =
    let crossed : HeapCrossed plan App near far one u = heap_crosses plan App near far one u agree fits are in
    record {
      machine = record far { heap = with_cells u.cells far.heap };
      taken = ap (option_map (λ (heap : List Object). record far { heap = with_cells u.cells heap })) crossed.room;
      rest = record {
        app_headers = agree.near_headers;
        db_headers = crossed.headers;
        copies = λ o i. record {
          app_there = (agree.copies o i).near_there;
          db_there = (crossed.copies o i).near_there;
          app_kept = (agree.copies o i).kept;
          db_kept = (crossed.copies o i).kept;
        };
      };
    }

-- ---- the begin of a call

blanks_like : (types : List Ty) → SlotsLike (map (λ t. blank (default_of t)) types) (map (λ t. blank (default_of t)) types)
blanks_like [] = tt
blanks_like (t ∷ types) = ((λ _. refl), blanks_like types)

entry_like : (args : List Value) (types : List Ty) → length args ≤ length types → SlotsLike (map just_written args ++ map (λ t. blank (default_of t)) (drop (length args) types)) (map (λ t. blank (default_of t)) types)
entry_like [] types h = blanks_like types
entry_like (x ∷ args) [] h = absurd (omega (arith, h))
entry_like (x ∷ args) (t ∷ types) h = ((λ e. cc), entry_like args types (omega (arith, h)))

pub default_plain : (t : Ty) → IsNoReference (default_of t)
default_plain ty.Int = tt
default_plain ty.Long = tt
default_plain ty.Bool = tt
default_plain ty.Text = tt
default_plain ty.Ref = tt

plain_leads : (heap : List Object) (x : Value) → IsNoReference x → leads heap x ≡ true
plain_leads heap (v.Int n) h = refl
plain_leads heap (v.Long n) h = refl
plain_leads heap (v.Bool b) h = refl
plain_leads heap (v.Text t) h = refl
plain_leads heap v.Null h = refl
plain_leads heap (v.Ref o) h = absurd h

blanks_lead : (heap : List Object) (types : List Ty) → AllByRecursion (λ (s : Slot). leads heap s.value ≡ true) (map (λ t. blank (default_of t)) types)
blanks_lead heap [] = tt
blanks_lead heap (t ∷ types) = (plain_leads heap (default_of t) (default_plain t), blanks_lead heap types)

args_lead : (heap : List Object) (args : List Value) (rest : List Slot) → AllByRecursion IsNoReference args → AllByRecursion (λ (s : Slot). leads heap s.value ≡ true) rest → AllByRecursion (λ (s : Slot). leads heap s.value ≡ true) (map just_written args ++ rest)
args_lead heap [] rest h k = k
args_lead heap (x ∷ args) rest h k = (plain_leads heap x h.0, args_lead heap args rest h.1 k)

first_there : (heap : List Object) (h : Header) → header_at heap 0 ≡ Some h → nat_lt 0 (length heap) ≡ true
first_there [] h e = cc
first_there (x ∷ heap) h e = lt-ltb 0 (length (x ∷ heap)) (omega arith)

module _ (plan : Plan) (method : ℕ) (args : List Value) (there : method ≤ length plan.code.methods) (few : length args + 1 ≤ length (types_of (method_at plan.code.methods method))) where
  abbrev types : List Ty
  types = types_of (method_at plan.code.methods method)

  -- the blank frame of the entry
  slots_like : SlotsLike (entry_slots types (v.Ref 0 ∷ args)) (blank_slots plan method)
  slots_like = of_method method refl
    where
      of_method : (n : ℕ) → n ≡ method → SlotsLike (entry_slots types (v.Ref 0 ∷ args)) (blank_slots plan n)
      of_method zero e = let none : length types ≡ 0 = ap (λ k. length (types_of (method_at plan.code.methods k))) (sym e) in absurd (omega (arith, none, few))
      of_method (suc n) e = subst (λ (ts : List Ty). SlotsLike (entry_slots types (v.Ref 0 ∷ args)) (map (λ t. blank (default_of t)) ts)) (ap (λ k. types_of (method_at plan.code.methods k)) (sym e)) (entry_like (v.Ref 0 ∷ args) types (omega (arith, few)))

  frames_like : (app db : List Object) → FramesLike (entered plan.code app method args).frames (bare plan (entered plan.code app method args) (attending db))
  frames_like app db = (record { method = refl; back = refl; slots = ((λ _. refl), tt) }, (record { method = refl; back = refl; slots = slots_like }, tt))

pub calls_begin : CallsBegin
calls_begin plan app db one method args rest fits there few plain = record {
  agree = record {
    frames = refl;
    near_headers = rest.app_headers;
    far_headers = rest.db_headers;
    copies = λ o i. let c = rest.copies o i in record { near_there = c.app_there; far_there = c.db_there; kept = c.app_kept; written = λ h. cc; far_kept = λ k _. c.db_kept k };
    named = λ o i h kept. cc;
  };
  can_tell = record {
    like = frames_like plan method args there few app db;
    base = omega arith;
    frames = (fits_frame 0 (omega arith), (fits_frame method there, tt));
    lead = ((refl, tt), ((first_there app fits.shaped.first.header (rest.app_headers 0 ∙ ap header_of fits.shaped.first_is), args_lead app args (map (λ t. blank (default_of t)) (drop (length (v.Ref 0 ∷ args)) (types_of (method_at plan.code.methods method)))) plain (blanks_lead app (drop (length (v.Ref 0 ∷ args)) (types_of (method_at plan.code.methods method))))), tt));
  };
}
  where
    both : (a b : Bool) → a ≡ true → b ≡ true → (a && b) ≡ true
    both true b h k = k
    both false b h k = cc

    fits_frame : (n : ℕ) → n ≤ length plan.code.methods → frame_fits plan (record { method = n; back = 0 }) ≡ true
    fits_frame n h = both (nat_le n (length plan.code.methods)) (nat_le 0 (length plan.blocks.blocks)) (le-leb n (length plan.code.methods) h) (le-leb 0 (length plan.blocks.blocks) (omega arith))
