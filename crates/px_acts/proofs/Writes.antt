-- Two writes of a heap.
use Rattle.std.proofs.Common.{◌≡◌, ℕ, zero, suc, List, [], ◌∷◌, Option, Some, None, slice_get, slice_set, length, take, refl, sym, ap, ◌∙◌}
use Rattle.px_value.specs.declared.value.Value.{Value}
use Rattle.px_value.specs.declared.object.Object.{Object}
use Rattle.px_value.specs.Heap.{written, with_cell}

set_set : (xs : List Value) (i : ℕ) (v w : Value) → slice_set (slice_set xs i v) i w ≡ slice_set xs i w
set_set [] i v w = refl
set_set (x ∷ xs) zero v w = refl
set_set (x ∷ xs) (suc i) v w = ap (λ (ys : List Value). x ∷ ys) (set_set xs i v w)

set_apart : (xs : List Value) (i j : ℕ) (v w : Value) → (i ≡ j → ⊥) → slice_set (slice_set xs i v) j w ≡ slice_set (slice_set xs j w) i v
set_apart [] i j v w n = refl
set_apart (x ∷ xs) zero zero v w n = absurd (n refl)
set_apart (x ∷ xs) zero (suc j) v w n = refl
set_apart (x ∷ xs) (suc i) zero v w n = refl
set_apart (x ∷ xs) (suc i) (suc j) v w n = ap (λ (ys : List Value). x ∷ ys) (set_apart xs i j v w (λ e. n (ap suc e)))

with_cell-cons : (found : Option Object) (x : Object) (heap : List Object) (o i : ℕ) (v : Value) → with_cell found i v (x ∷ heap) (suc o) ≡ x ∷ with_cell found i v heap o
with_cell-cons None x heap o i v = refl
with_cell-cons (Some y) x heap o i v = refl

-- a write behind the first object
pub written-cons : (x : Object) (heap : List Object) (o i : ℕ) (v : Value) → written (x ∷ heap) (suc o) i v ≡ x ∷ written heap o i v
written-cons x heap o i v = with_cell-cons (slice_get heap o) x heap o i v

abbrev cells_in : Object → List Value → Object
cells_in x cells = record x { cells = cells }

-- the later write of a cell stands
pub written-over : (heap : List Object) (o i : ℕ) (v w : Value) → written (written heap o i v) o i w ≡ written heap o i w
written-over [] o i v w = refl
written-over (x ∷ heap) zero i v w = ap (λ (cells : List Value). cells_in x cells ∷ heap) (set_set x.cells i v w)
written-over (x ∷ heap) (suc o) i v w =
    ap (λ (h : List Object). written h (suc o) i w) (written-cons x heap o i v) ∙ written-cons x (written heap o i v) o i w
    ∙ ap (λ (h : List Object). x ∷ h) (written-over heap o i v w) ∙ sym (written-cons x heap o i w)

-- writes of two cells, in either order
pub written-apart : (heap : List Object) (o i p j : ℕ) (v w : Value) → (o ≡ p → i ≡ j → ⊥) → written (written heap o i v) p j w ≡ written (written heap p j w) o i v
written-apart [] o i p j v w n = refl
written-apart (x ∷ heap) zero i zero j v w n = ap (λ (cells : List Value). cells_in x cells ∷ heap) (set_apart x.cells i j v w (n refl))
written-apart (x ∷ heap) zero i (suc p) j v w n =
    let y : Object = cells_in x (slice_set x.cells i v) in
    written-cons y heap p j w ∙ sym (ap (λ (h : List Object). written h zero i v) (written-cons x heap p j w))
written-apart (x ∷ heap) (suc o) i zero j v w n =
    let y : Object = cells_in x (slice_set x.cells j w) in
    ap (λ (h : List Object). written h zero j w) (written-cons x heap o i v) ∙ sym (written-cons y heap o i v)
written-apart (x ∷ heap) (suc o) i (suc p) j v w n =
    ap (λ (h : List Object). written h (suc p) j w) (written-cons x heap o i v) ∙ written-cons x (written heap o i v) p j w
    ∙ ap (λ (h : List Object). x ∷ h) (written-apart heap o i p j v w (λ e. n (ap suc e)))
    ∙ sym (ap (λ (h : List Object). written h (suc o) i v) (written-cons x heap p j w) ∙ written-cons x (written heap p j w) o i v)

-- ---- the first objects of a heap

pub take-written : (n : ℕ) (heap : List Object) (o i : ℕ) (v : Value) → take n (written heap o i v) ≡ written (take n heap) o i v
take-written zero [] o i v = refl
take-written zero (x ∷ heap) o i v = refl
take-written (suc n) [] o i v = refl
take-written (suc n) (x ∷ heap) zero i v = refl
take-written (suc n) (x ∷ heap) (suc o) i v =
    ap (take (suc n)) (written-cons x heap o i v) ∙ ap (λ (h : List Object). x ∷ h) (take-written n heap o i v)
    ∙ sym (written-cons x (take n heap) o i v)

pub length-written : (heap : List Object) (o i : ℕ) (v : Value) → length (written heap o i v) ≡ length heap
length-written [] o i v = refl
length-written (x ∷ heap) zero i v = refl
length-written (x ∷ heap) (suc o) i v = ap length (written-cons x heap o i v) ∙ ap suc (length-written heap o i v)
