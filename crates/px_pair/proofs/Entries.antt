-- The machine with which a call begins fits its first block.
use Rattle.std.proofs.Common.{◌≡◌, ℕ, zero, suc, ◌+◌, Bool, true, false, ◌==◌, List, [], ◌∷◌, ◌++◌, map, length, drop, Option, Some, None, slice_get, unwrap_or, if◌then◌else◌, refl, sym, ap, subst, ◌∙◌, eqb-true, arith}
use Rattle.std.specs.List.{AllByRecursion}
use Rattle.px_value.specs.declared.value.Value.{Value}
use Rattle.px_value.specs.declared.value.Value.TheVariants as v
use Rattle.px_value.specs.declared.object.Object.{Object}
use Rattle.px_value.specs.declared.ty.Ty.{Ty}
use Rattle.px_value.specs.Defaults.{default_of}
use Rattle.px_value.specs.Heap.{header_of}
use Rattle.px_code.specs.declared.method.Method.{Method}
use Rattle.px_code.specs.declared.frame.Slot.{Slot}
use Rattle.px_code.specs.declared.block.Block.{Block}
use Rattle.px_code.specs.declared.code.Code.{Code}
use Rattle.px_code.specs.Places.{numbered}
use Rattle.px_code.specs.Points.{InSlot, PointsTo, this}
use Rattle.px_code.specs.Fits.{Leads}
use Rattle.px_code.specs.Frames.{blank, types_of}
use Rattle.px_code.specs.CodeRun.{method_at}
use Rattle.px_code.specs.Machine.{just_written, value_in, block_at}
use Rattle.px_code.specs.Cut.{first_of, firsts_from}
use Rattle.px_code.specs.Law.{MachineFits}
use Rattle.px_code.specs.Sound.{IsNoReference, IsInput, entered}
use Rattle.px_pair.specs.Good.{EntriesFit}
use Rattle.px_pair.proofs.Sessions.{default_plain}
use Rattle.px_pair.proofs.FreshCalls.{all_more}

-- ---- the first block is of its method

module _ (blocks : List Block) where
  first_is : (m n : ℕ) (later : List Block) → ((k : ℕ) → slice_get later k ≡ block_at blocks (k + n)) → (b : Block) → block_at blocks (first_of m n later) ≡ Some b → b.method ≡ m
  first_is m n [] link b is = cc
  first_is m n (x ∷ later) link b is = by_method (x.method == m) refl is (first_is m (n + 1) later (λ k. link (suc k) ∙ ap (block_at blocks) (shift k)) b)
    where
      shift : (k : ℕ) → suc k + n ≡ k + (n + 1)
      shift k = omega arith

      start : 0 + n ≡ n
      start = omega arith

      by_method : (r : Bool) → (x.method == m) ≡ r → block_at blocks (if r then n else first_of m (n + 1) later) ≡ Some b → (block_at blocks (first_of m (n + 1) later) ≡ Some b → b.method ≡ m) → b.method ≡ m
      by_method false e is rest = rest is
      by_method true e is rest =
          let same : Some x ≡ Some b = link zero ∙ ap (block_at blocks) start ∙ is in
          let is_b : x ≡ b = cc in
          ap (λ (y : Block). y.method) (sym is_b) ∙ eqb-true x.method m e

  first_listed : (j : ℕ) (methods : List Method) (k f : ℕ) → slice_get (firsts_from j methods blocks) k ≡ Some f → first_of (k + j) 1 blocks ≡ f
  first_listed j [] k f is = cc
  first_listed j (method ∷ methods) zero f is = ap (λ (m : ℕ). first_of m 1 blocks) start ∙ found
    where
      start : 0 + j ≡ j
      start = omega arith

      found : first_of j 1 blocks ≡ f
      found = cc
  first_listed j (method ∷ methods) (suc k) f is = ap (λ (m : ℕ). first_of m 1 blocks) shift ∙ first_listed (j + 1) methods k f is
    where
      shift : suc k + j ≡ k + (j + 1)
      shift = omega arith

  first_of_method : (methods : List Method) (m : ℕ) (b : Block) → block_at blocks (unwrap_or (numbered (firsts_from 1 methods blocks) m) 0) ≡ Some b → b.method ≡ m
  first_of_method methods zero b is = cc
  first_of_method methods (suc k) b is = by_first (slice_get (firsts_from 1 methods blocks) k) refl is
    where
      next : (k : ℕ) → k + 1 ≡ suc k
      next k = omega arith

      by_first : (x : Option ℕ) → slice_get (firsts_from 1 methods blocks) k ≡ x → block_at blocks (unwrap_or x 0) ≡ Some b → b.method ≡ suc k
      by_first None e is = cc
      by_first (Some f) e is =
          first_is (suc k) 1 blocks (λ i. ap (block_at blocks) (sym (next i))) b
          (ap (block_at blocks) (ap (λ (m : ℕ). first_of m 1 blocks) (sym (next k)) ∙ first_listed 1 methods k f e) ∙ is)

-- ---- the frame of the entry

abbrev ArePlain : List Slot → Type 0
ArePlain slots = AllByRecursion (λ (s : Slot). IsNoReference s.value) slots

plain_value : (x : Value) (target : ℕ) → IsNoReference x → x ≡ v.Ref target → ⊥
plain_value x target plain e = subst IsNoReference e plain

no_reference : (slots : List Slot) → ArePlain slots → (k target : ℕ) → value_in slots k ≡ v.Ref target → ⊥
no_reference [] h k target e = cc
no_reference (s ∷ slots) h zero target e = plain_value s.value target h.0 e
no_reference (s ∷ slots) h (suc k) target e = no_reference slots h.1 k target e

args_plain : (args : List Value) → AllByRecursion IsNoReference args → ArePlain (map just_written args)
args_plain [] h = tt
args_plain (x ∷ args) h = (h.0, args_plain args h.1)

blanks_plain : (types : List Ty) → ArePlain (map (λ t. blank (default_of t)) types)
blanks_plain [] = tt
blanks_plain (t ∷ types) = (default_plain t, blanks_plain types)

entry_fits : (code : Code) (heap : List Object) (method : ℕ) (args : List Value) → IsInput code heap method args → MachineFits code method (entered code heap method args)
entry_fits code heap method args input = record { heap = input.fits; frame = frame }
  where
    rest : List Slot
    rest = map just_written args ++ map (λ t. blank (default_of t)) (drop (length (v.Ref 0 ∷ args)) (types_of (method_at code.methods method)))

    frame : (n target : ℕ) → value_in (just_written (v.Ref 0) ∷ rest) n ≡ v.Ref target → Leads code heap (InSlot method n) target
    frame zero target e =
        let first : 0 ≡ target = cc in
        subst (λ (o : ℕ). Leads code heap (InSlot method 0) o) first
        (record {
          header = input.fits.shaped.first.header;
          there = ap header_of input.fits.shaped.first_is;
          site = subst (λ (s : ℕ). PointsTo code (InSlot method 0) s) (sym input.fits.shaped.at_site_0) (this input.is input.entry);
        })
    frame (suc n) target e = absurd (no_reference rest (all_more (λ (s : Slot). IsNoReference s.value) (map just_written args) (map (λ t. blank (default_of t)) (drop (length (v.Ref 0 ∷ args)) (types_of (method_at code.methods method)))) (args_plain args input.plain) (blanks_plain (drop (length (v.Ref 0 ∷ args)) (types_of (method_at code.methods method))))) n target e)

pub entries_fit : EntriesFit
entries_fit plan heap method args are input b is = subst (λ (m : ℕ). MachineFits plan.code m (entered plan.code heap method args)) (sym same) (entry_fits plan.code heap method args input)
  where
    same : b.method ≡ method
    same = first_of_method plan.blocks.blocks plan.code.methods method b (subst (λ (firsts : List ℕ). block_at plan.blocks.blocks (unwrap_or (numbered firsts method) 0) ≡ Some b) are.firsts is)
