-- Taking back what was written.
use Rattle.std.proofs.Common.{◌≡◌, ◌<◌, ◌≤◌, ℕ, zero, suc, nat_lt, nat_eq, Bool, true, false, not, ◌&&◌, ◌||◌, cond, is_some, List, [], ◌∷◌, ◌++◌, take, Option, Some, None, slice_get, refl, sym, ap, ◌∙◌, arith}
use Rattle.std.proofs.lemmas.Bool.Decides.{nat_tests}
use Rattle.std.specs.Map.{lookup}
use Rattle.px_value.specs.declared.value.Value.{Value}
use Rattle.px_value.specs.declared.object.Object.{Object}
use Rattle.px_value.specs.Heap.{written, cell_of, cell_at}
use Rattle.px_value.proofs.Cells.{written-written, written-none}
use Rattle.px_acts.specs.Undo.{Cell, is_cell, Old, undone, restored}
use Rattle.px_acts.proofs.Writes.{written-over, written-apart, take-written}

undone-push : (olds : List Old) (o : Old) (heap : List Object) → undone (olds ++ o ∷ []) heap ≡ undone olds (written heap o.0.0 o.0.1 o.1)
undone-push [] o heap = refl
undone-push (d ∷ olds) o heap = ap (λ (h : List Object). written h d.0.0 d.0.1 d.1) (undone-push olds o heap)

pub undone-pop : (all olds : List Old) (heap new : List Object) (o : Old) → all ≡ olds ++ o ∷ [] → new ≡ written heap o.0.0 o.0.1 o.1 → undone olds new ≡ undone all heap
undone-pop all olds heap new o e h = ap (undone olds) h ∙ sym (ap (λ (xs : List Old). undone xs heap) e ∙ undone-push olds o heap)

-- ---- cells

and_left : (a b : Bool) → (a && b) ≡ true → a ≡ true
and_left true b h = refl
and_left false b h = cc

and_right : (a b : Bool) → (a && b) ≡ true → b ≡ true
and_right true b h = h
and_right false b h = cc

same_number : (m n : ℕ) → nat_eq m n ≡ true → m ≡ n
same_number m n h = grind (arith, nat_tests, h)

own_number : (n : ℕ) → nat_eq n n ≡ true
own_number n = grind arith

same_cell : (a b : Cell) → is_cell a b ≡ true → a ≡ b
same_cell a b h =
    ap (λ (n : ℕ). (n, a.1)) (same_number a.0 b.0 (and_left (nat_eq a.0 b.0) (nat_eq a.1 b.1) h))
    ∙ ap (λ (n : ℕ). (b.0, n)) (same_number a.1 b.1 (and_right (nat_eq a.0 b.0) (nat_eq a.1 b.1) h))

not_both : (a b : Bool) → (a && b) ≡ false → a ≡ true → b ≡ true → ⊥
not_both true b h p q = absurd cc
not_both false b h p q = absurd cc

other_cell : (a b : Cell) → is_cell a b ≡ false → a.0 ≡ b.0 → a.1 ≡ b.1 → ⊥
other_cell a b h e k =
    not_both (nat_eq a.0 b.0) (nat_eq a.1 b.1) h (sym (ap (nat_eq a.0) e) ∙ own_number a.0) (sym (ap (nat_eq a.1) k) ∙ own_number a.1)

-- ---- a cell that is noted is written once more

abbrev put : Cell → Value → List Object → List Object
put c v heap = written heap c.0 c.1 v

-- what was written of a cell doesn't tell once it is written over
over_one : (b : Bool) (x y : List Object) (d c : Cell) (u w : Value) → is_cell d c ≡ b → put c w x ≡ put c w y → put c w (put d u x) ≡ put c w (put d u y)
over_one true x y d c u w e h =
    let same = same_cell d c e in
    (λ i. put c w (put (same i) u x)) ∙ written-over x c.0 c.1 u w ∙ h ∙ sym (written-over y c.0 c.1 u w) ∙ sym (λ i. put c w (put (same i) u y))
over_one false x y d c u w e h =
    let apart = other_cell d c e in
    written-apart x d.0 d.1 c.0 c.1 u w apart ∙ ap (put d u) h ∙ sym (written-apart y d.0 d.1 c.0 c.1 u w apart)

over : (olds : List Old) (heap : List Object) (c : Cell) (v w : Value) → put c w (undone olds (put c v heap)) ≡ put c w (undone olds heap)
over [] heap c v w = written-over heap c.0 c.1 v w
over (d ∷ olds) heap c v w = over_one (is_cell d.0 c) (undone olds (put c v heap)) (undone olds heap) d.0 c d.1 w refl (over olds heap c v w)

-- a note is there
noted_one : (b : Bool) (x y : List Object) (d c : Cell) (u : Value) (rest : Option Value) → is_cell c d ≡ b → is_some (cond b (Some u) rest) ≡ true → put c u x ≡ put c u y → (is_some rest ≡ true → x ≡ y) → put d u x ≡ put d u y
noted_one true x y d c u rest e h over more =
    let same = same_cell c d e in
    sym (λ i. put (same i) u x) ∙ over ∙ (λ i. put (same i) u y)
noted_one false x y d c u rest e h over more = ap (put d u) (more h)

noted : (olds : List Old) (heap : List Object) (c : Cell) (v : Value) → is_some (lookup (is_cell c) olds) ≡ true → undone olds (put c v heap) ≡ undone olds heap
noted [] heap c v h = cc
noted (d ∷ olds) heap c v h =
    noted_one (is_cell c d.0) (undone olds (put c v heap)) (undone olds heap) d.0 c d.1 (lookup (is_cell c) olds) refl h (over olds heap c v d.1) (noted olds heap c v)

-- ---- the first objects of a heap

within-take : {A : Type 0} (n : ℕ) (xs : List A) (i : ℕ) → i < n → slice_get (take n xs) i ≡ slice_get xs i
within-take zero xs i h = absurd (omega (arith, h))
within-take (suc n) [] i h = refl
within-take (suc n) (x ∷ xs) zero h = refl
within-take (suc n) (x ∷ xs) (suc i) h = within-take n xs i (omega (arith, h))

past-take : {A : Type 0} (n : ℕ) (xs : List A) (i : ℕ) → n ≤ i → slice_get (take n xs) i ≡ None
past-take zero [] i h = refl
past-take zero (x ∷ xs) i h = refl
past-take (suc n) [] i h = refl
past-take (suc n) (x ∷ xs) zero h = absurd (omega (arith, h))
past-take (suc n) (x ∷ xs) (suc i) h = past-take n xs i (omega (arith, h))

-- ---- a write

new_or_noted : (near known : Bool) (start : ℕ) (olds : List Old) (heap : List Object) (c : Cell) (v : Value) → nat_lt c.0 start ≡ near → is_some (lookup (is_cell c) olds) ≡ known → (not near || known) ≡ true → undone olds (put c v (take start heap)) ≡ undone olds (take start heap)
new_or_noted false known start olds heap c v k e h =
    let far : start ≤ c.0 = grind (arith, nat_tests, k) in
    ap (undone olds) (sym (written-none (take start heap) c.0 c.1 v (ap (λ (o : Option Object). cell_of o c.1) (past-take start heap c.0 far))))
new_or_noted true known start olds heap c v k e h = noted olds (take start heap) c v (e ∙ h)

-- a write that needs no note
pub restored-noted : (start : ℕ) (olds : List Old) (heap new : List Object) (c : Cell) (v : Value) → (not (nat_lt c.0 start) || is_some (lookup (is_cell c) olds)) ≡ true → new ≡ written heap c.0 c.1 v → restored start olds new ≡ restored start olds heap
restored-noted start olds heap new c v h e =
    ap (restored start olds) e ∙ ap (undone olds) (take-written start heap c.0 c.1 v)
    ∙ new_or_noted (nat_lt c.0 start) (is_some (lookup (is_cell c) olds)) start olds heap c v refl refl h

first_written : (near known : Bool) (start : ℕ) (heap : List Object) (c : Cell) (v old : Value) → nat_lt c.0 start ≡ near → (not near || known) ≡ false → cell_at heap c.0 c.1 ≡ Some old → written (put c v (take start heap)) c.0 c.1 old ≡ take start heap
first_written false known start heap c v old k h at = absurd cc
first_written true known start heap c v old k h at =
    let near : c.0 < start = grind (arith, nat_tests, k) in
    written-written (take start heap) c.0 c.1 v old (ap (λ (o : Option Object). cell_of o c.1) (within-take start heap c.0 near) ∙ at)

-- a write that is noted
pub restored-new : (known : Bool) (start : ℕ) (olds : List Old) (heap new : List Object) (c : Cell) (v old : Value) → (not (nat_lt c.0 start) || known) ≡ false → cell_at heap c.0 c.1 ≡ Some old → new ≡ written heap c.0 c.1 v → restored start (olds ++ (c, old) ∷ []) new ≡ restored start olds heap
restored-new known start olds heap new c v old h at e =
    ap (restored start (olds ++ (c, old) ∷ [])) e ∙ undone-push olds (c, old) (take start (written heap c.0 c.1 v))
    ∙ ap (λ (x : List Object). undone olds (written x c.0 c.1 old)) (take-written start heap c.0 c.1 v)
    ∙ ap (undone olds) (first_written (nat_lt c.0 start) known start heap c v old refl h at)

-- a write that is neither of a new object nor noted
pub not_noted : {A : Type 0} (far : Bool) (found : Option A) → (far || is_some found) ≡ false → found ≡ None
not_noted true found h = absurd cc
not_noted false None h = refl
not_noted false (Some a) h = absurd cc
