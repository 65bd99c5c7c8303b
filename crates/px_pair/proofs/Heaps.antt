-- What a heap holds after a write.
use Rattle.std.proofs.Common.{◌≡◌, ℕ, zero, suc, Bool, true, false, cond, ◌==◌, ◌&&◌, ◌||◌, List, [], ◌∷◌, ◌++◌, Option, Some, None, slice_get, slice_set, refl, sym, ap, ◌∙◌}
use Rattle.std.proofs.lemmas.Bool.Decides.{same_from_decides, Decides-eqb}
use Rattle.px_value.specs.declared.value.Value.{Value}
use Rattle.px_value.specs.declared.object.Object.{Object}
use Rattle.px_value.specs.Heap.{cell_at, written, with_cell}
use Rattle.px_code.specs.declared.cell.Cell.{Cell}
use Rattle.px_code.specs.Fits.{header_at}
use Rattle.px_half.specs.Messages.{is_marked}

-- ---- equal numbers, by recursion

abbrev pub same : ℕ → ℕ → Bool
same zero zero = true
same zero (suc n) = false
same (suc m) zero = false
same (suc m) (suc n) = same m n

same_true : (m n : ℕ) → same m n ≡ true → m ≡ n
same_true zero zero h = refl
same_true zero (suc n) h = cc
same_true (suc m) zero h = cc
same_true (suc m) (suc n) h = ap suc (same_true m n h)

pub same_refl : (m : ℕ) → same m m ≡ true
same_refl zero = refl
same_refl (suc m) = same_refl m

pub same_is : (m n : ℕ) → (m == n) ≡ same m n
same_is m n = same_from_decides (m == n) (same m n) (Decides-eqb m n) (same_true m n, λ e. ap (same m) (sym e) ∙ same_refl m)

pub eq_self : (n : ℕ) → (n == n) ≡ true
eq_self n = same_is n n ∙ same_refl n

-- ---- a write

-- a value put where one was
abbrev pub put : Value → Option Value → Option Value
put v None = None
put v (Some w) = Some v

set_suc : (m : Option Object) (i : ℕ) (v : Value) (x : Object) (xs : List Object) (n : ℕ) → with_cell m i v (x ∷ xs) (suc n) ≡ x ∷ with_cell m i v xs n
set_suc None i v x xs n = refl
set_suc (Some y) i v x xs n = refl

written_suc : (x : Object) (xs : List Object) (n i : ℕ) (v : Value) → written (x ∷ xs) (suc n) i v ≡ x ∷ written xs n i v
written_suc x xs n i v = set_suc (slice_get xs n) i v x xs n

pub header_written : (hs : List Object) (o i : ℕ) (v : Value) (o' : ℕ) → header_at (written hs o i v) o' ≡ header_at hs o'
header_written [] o i v o' = refl
header_written (x ∷ xs) zero i v zero = refl
header_written (x ∷ xs) zero i v (suc o') = refl
header_written (x ∷ xs) (suc o) i v zero = ap (λ (l : List Object). header_at l zero) (written_suc x xs o i v)
header_written (x ∷ xs) (suc o) i v (suc o') = ap (λ (l : List Object). header_at l (suc o')) (written_suc x xs o i v) ∙ header_written xs o i v o'

nothing : (b : Bool) (o : Option Value) → o ≡ cond b o o
nothing true o = refl
nothing false o = refl

get_set : (xs : List Value) (i i' : ℕ) (v : Value) → slice_get (slice_set xs i v) i' ≡ cond (same i i') (put v (slice_get xs i')) (slice_get xs i')
get_set [] i i' v = nothing (same i i') None
get_set (x ∷ xs) zero zero v = refl
get_set (x ∷ xs) zero (suc i') v = refl
get_set (x ∷ xs) (suc i) zero v = refl
get_set (x ∷ xs) (suc i) (suc i') v = get_set xs i i' v

abbrev at_same : ℕ → ℕ → ℕ → ℕ → Bool
at_same o i o' i' = same o o' && same i i'

cell_by_same : (hs : List Object) (o i : ℕ) (v : Value) (o' i' : ℕ) → cell_at (written hs o i v) o' i' ≡ cond (at_same o i o' i') (put v (cell_at hs o' i')) (cell_at hs o' i')
cell_by_same [] o i v o' i' = nothing (at_same o i o' i') None
cell_by_same (x ∷ xs) zero i v zero i' = get_set x.cells i i' v
cell_by_same (x ∷ xs) zero i v (suc o') i' = refl
cell_by_same (x ∷ xs) (suc o) i v zero i' = ap (λ (l : List Object). cell_at l zero i') (written_suc x xs o i v)
cell_by_same (x ∷ xs) (suc o) i v (suc o') i' = ap (λ (l : List Object). cell_at l (suc o') i') (written_suc x xs o i v) ∙ cell_by_same xs o i v o' i'

abbrev pub at_cell : ℕ → ℕ → ℕ → ℕ → Bool
at_cell o i o' i' = (o == o') && (i == i')

pub cell_written : (hs : List Object) (o i : ℕ) (v : Value) (o' i' : ℕ) → cell_at (written hs o i v) o' i' ≡ cond (at_cell o i o' i') (put v (cell_at hs o' i')) (cell_at hs o' i')
cell_written hs o i v o' i' = cell_by_same hs o i v o' i' ∙ ap (λ b. cond b (put v (cell_at hs o' i')) (cell_at hs o' i')) (sym (λ k. same_is o o' k && same_is i i' k))

-- ---- marks

or_false : (b : Bool) → (b || false) ≡ b
or_false true = refl
or_false false = refl

pub or_assoc : (a b c : Bool) → (a || (b || c)) ≡ ((a || b) || c)
or_assoc true b c = refl
or_assoc false b c = refl

pub marked_more : (marks more : List Cell) (o i : ℕ) → is_marked (marks ++ more) o i ≡ (is_marked marks o i || is_marked more o i)
marked_more [] more o i = refl
marked_more (c ∷ marks) more o i = ap (λ b. at_cell c.object c.index o i || b) (marked_more marks more o i) ∙ or_assoc (at_cell c.object c.index o i) (is_marked marks o i) (is_marked more o i)

pub marked_one : (marks : List Cell) (o i o' i' : ℕ) → is_marked (marks ++ record { object = o; index = i } ∷ []) o' i' ≡ (is_marked marks o' i' || at_cell o i o' i')
marked_one marks o i o' i' = marked_more marks (record { object = o; index = i } ∷ []) o' i' ∙ ap (λ b. is_marked marks o' i' || b) (or_false (at_cell o i o' i'))
