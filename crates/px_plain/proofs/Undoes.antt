-- Taking back what was written.
use Rattle.std.proofs.Common.{◌≡◌, ◌<◌, ◌≤◌, ℕ, zero, suc, nat_lt, Bool, true, false, List, [], ◌∷◌, ◌++◌, take, Option, Some, None, slice_get, if◌then◌else◌, refl, sym, ap, ◌∙◌, arith}
use Rattle.std.proofs.lemmas.Bool.Decides.{nat_tests}
use Rattle.px_value.specs.declared.value.Value.{Value}
use Rattle.px_value.specs.declared.object.Object.{Object}
use Rattle.px_value.specs.Heap.{written, with_cell, cell_of, cell_at}
use Rattle.px_value.proofs.Cells.{written-written, written-none}
use Rattle.px_plain.specs.declared.change.Change.{Change}
use Rattle.px_plain.specs.Undo.{noted, restored, undone}
use Rattle.px_value.specs.declared.statement.TableOp.{TableOp}
use Rattle.px_rows.specs.Tables.{Tables, Old, with_row, undone as undone_tables}
use Rattle.px_rows.specs.Means.{after, old_of}
use Rattle.px_rows.proofs.Back.{op_back}

undone-push : (cs : List Change) (c : Change) (heap : List Object) → undone (cs ++ c ∷ []) heap ≡ undone cs (written heap c.object c.index c.old)
undone-push [] c heap = refl
undone-push (d ∷ cs) c heap = ap (λ h. written h d.object d.index d.old) (undone-push cs c heap)

pub undone-pop : (all cs : List Change) (heap new : List Object) (c : Change) → all ≡ cs ++ c ∷ [] → new ≡ written heap c.object c.index c.old → undone cs new ≡ undone all heap
undone-pop all cs heap new c e h = ap (undone cs) h ∙ sym (ap (λ (xs : List Change). undone xs heap) e ∙ undone-push cs c heap)

-- ---- the first objects of a heap

with_cell-cons : (found : Option Object) (x : Object) (heap : List Object) (o i : ℕ) (v : Value) → with_cell found i v (x ∷ heap) (suc o) ≡ x ∷ with_cell found i v heap o
with_cell-cons None x heap o i v = refl
with_cell-cons (Some y) x heap o i v = refl

take-written : (n : ℕ) (heap : List Object) (o i : ℕ) (v : Value) → take n (written heap o i v) ≡ written (take n heap) o i v
take-written zero [] o i v = refl
take-written zero (x ∷ heap) o i v = refl
take-written (suc n) [] o i v = refl
take-written (suc n) (x ∷ heap) zero i v = refl
take-written (suc n) (x ∷ heap) (suc o) i v =
    ap (take (suc n)) (with_cell-cons (slice_get heap o) x heap o i v) ∙ ap (λ (h : List Object). x ∷ h) (take-written n heap o i v)
    ∙ sym (with_cell-cons (slice_get (take n heap) o) x (take n heap) o i v)

within-take : {A : Type 0} (n : ℕ) (xs : List A) (i : ℕ) → i < n → slice_get (take n xs) i ≡ slice_get xs i
within-take zero xs i h = absurd (omega (arith, h))
within-take (suc n) [] i h = refl
within-take (suc n) (x ∷ xs) zero h = refl
within-take (suc n) (x ∷ xs) (suc i) h = within-take n xs i (omega (arith, h))

past-take : {A : Type 0} (n : ℕ) (xs : List A) (i : ℕ) → n ≤ i → slice_get (take n xs) i ≡ None
past-take zero [] i h = refl
past-take zero (x ∷ xs) i h = refl
past-take (suc n) [] i h = refl
past-take (suc n) (x ∷ xs) zero h = absurd (omega (arith, h))
past-take (suc n) (x ∷ xs) (suc i) h = past-take n xs i (omega (arith, h))

-- ---- a write is taken back

taken_back : (known : Bool) (start : ℕ) (c : Change) (changes : List Change) (heap : List Object) (v : Value) → nat_lt c.object start ≡ known → cell_at heap c.object c.index ≡ Some c.old → undone (if known then changes ++ c ∷ [] else changes) (written (take start heap) c.object c.index v) ≡ undone changes (take start heap)
taken_back true start c changes heap v k h =
    let near : c.object < start = grind (arith, nat_tests, k) in
    undone-push changes c (written (take start heap) c.object c.index v)
    ∙ ap (undone changes) (written-written (take start heap) c.object c.index v c.old (ap (λ (o : Option Object). cell_of o c.index) (within-take start heap c.object near) ∙ h))
taken_back false start c changes heap v k h =
    let far : start ≤ c.object = grind (arith, nat_tests, k) in
    ap (undone changes) (sym (written-none (take start heap) c.object c.index v (ap (λ (o : Option Object). cell_of o c.index) (past-take start heap c.object far))))

pub restored-write : (start start' : ℕ) (c : Change) (changes changes' : List Change) (heap heap' : List Object) (v : Value) → cell_at heap c.object c.index ≡ Some c.old → start' ≡ start → heap' ≡ written heap c.object c.index v → changes' ≡ noted start c changes → restored start' changes' heap' ≡ restored start changes heap
restored-write start start' c changes changes' heap heap' v h s e n =
    (λ i. restored (s i) (n i) (e i)) ∙ ap (undone (noted start c changes)) (take-written start heap c.object c.index v)
    ∙ taken_back (nat_lt c.object start) start c changes heap v refl h

-- ---- tables

undone-append : (olds more : List Old) (T : Tables) → undone_tables (olds ++ more) T ≡ undone_tables olds (undone_tables more T)
unfolding undone_tables
undone-append [] more T = refl
undone-append (o ∷ olds) more T = ap (λ (x : Tables). with_row x o.place o.row) (undone-append olds more T)

-- what an operation writes is taken back
pub undone-after : (o : TableOp) (T T' : Tables) (olds olds' : List Old) → T' ≡ after o T → olds' ≡ olds ++ old_of o T → undone_tables olds' T' ≡ undone_tables olds T
undone-after o T T' olds olds' h e =
    (λ i. undone_tables (e i) (h i)) ∙ undone-append olds (old_of o T) (after o T) ∙ ap (undone_tables olds) (op_back o T)
