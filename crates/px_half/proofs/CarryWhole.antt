-- The cells that are copied are those that travel.
use Rattle.std.proofs.Common.{◌≡◌, ℕ, suc, Bool, true, false, ◌&&◌, ◌||◌, ◌==◌, List, [], ◌∷◌, map, Option, Some, None, refl, sym, ap, ◌∙◌, subst, arith}
use Rattle.std.specs.List.{AllByRecursion, Contains}
use Rattle.std.proofs.lemmas.Bool.Decides.{nat_tests}
use Rattle.px_value.specs.declared.value.Value.{Value}
use Rattle.px_value.specs.declared.object.Object.{Object}
use Rattle.px_value.specs.Heap.{cell_at}
use Rattle.px_code.specs.declared.side.Side.{Side}
use Rattle.px_code.specs.declared.cell.Cell.{Cell}
use Rattle.px_code.specs.declared.plan.Plan.{Plan}
use Rattle.px_code.specs.Machine.{Machine}
use Rattle.px_wire.specs.declared.cell.CellAt.{CellAt}
use Rattle.px_wire.specs.Order.{IsBefore, AreInOrder, cell_place}
use Rattle.px_wire.proofs.Ordered.{both_true}
use Rattle.px_half.specs.declared.carry.Named.{Named}
use Rattle.px_half.specs.Messages.{home, header_at, is_marked, is_named, AreCarried}
use Rattle.px_half.specs.Carry.{place_of, AreEachOnce, IsLookupOf, names, with_value_if, is_named_cell, carried}

-- ---- the order

before-trans : (a b c : ℕ × ℕ) → IsBefore a b → IsBefore b c → IsBefore a c
before-trans a b c h k = grind arith

in_order-skip : (a b : ℕ × ℕ) (places : List (ℕ × ℕ)) → AreInOrder (a ∷ b ∷ places) → AreInOrder (a ∷ places)
in_order-skip a b [] h = tt
in_order-skip a b (c ∷ places) h = (before-trans a b c h.0 h.1.0, h.1.1)

in_order-tail : (a : ℕ × ℕ) (places : List (ℕ × ℕ)) → AreInOrder (a ∷ places) → AreInOrder places
in_order-tail a [] h = tt
in_order-tail a (b ∷ places) h = h.1

after-with_value : (b : Bool) (v : Option Value) (a : ℕ × ℕ) (c : Cell) (rest : List CellAt) → IsBefore a (place_of c) → AreInOrder (place_of c ∷ map cell_place rest) → AreInOrder (a ∷ map cell_place rest) → AreInOrder (a ∷ map cell_place (with_value_if b c v rest))
after-with_value true (Some v) a c rest before kept skipped = (before, kept)
after-with_value true None a c rest before kept skipped = skipped
after-with_value false v a c rest before kept skipped = skipped

in_order-with_value : (b : Bool) (v : Option Value) (c : Cell) (rest : List CellAt) → AreInOrder (place_of c ∷ map cell_place rest) → AreInOrder (map cell_place rest) → AreInOrder (map cell_place (with_value_if b c v rest))
in_order-with_value true (Some v) c rest kept skipped = kept
in_order-with_value true None c rest kept skipped = skipped
in_order-with_value false v c rest kept skipped = skipped

module _ (plan : Option Plan) (heap : List Object) (is_named_at : Side → ℕ → Bool) where
  after-carried : (a : ℕ × ℕ) (cells : List Cell) → AreInOrder (a ∷ map place_of cells) → AreInOrder (a ∷ map cell_place (carried plan heap is_named_at cells))
  after-carried a [] h = tt
  after-carried a (c ∷ cells) h =
      after-with_value (is_named_cell plan heap is_named_at c) (cell_at heap c.object c.index) a c (carried plan heap is_named_at cells) h.0
      (after-carried (place_of c) cells h.1)
      (after-carried a cells (in_order-skip a (place_of c) (map place_of cells) h))

  in_order-carried : (cells : List Cell) → AreInOrder (map place_of cells) → AreInOrder (map cell_place (carried plan heap is_named_at cells))
  in_order-carried [] h = tt
  in_order-carried (c ∷ cells) h =
      in_order-with_value (is_named_cell plan heap is_named_at c) (cell_at heap c.object c.index) c (carried plan heap is_named_at cells)
      (after-carried (place_of c) cells h)
      (in_order-carried cells (in_order-tail (place_of c) (map place_of cells) h))

-- ---- each cell that is copied travels

and_true : (a b : Bool) → a ≡ true → b ≡ true → (a && b) ≡ true
and_true true b e f = f
and_true false b e f = absurd cc

or_right : (a b : Bool) → b ≡ true → (a || b) ≡ true
or_right true b e = refl
or_right false b e = e

marks_itself : (c : Cell) (cells : List Cell) → is_marked (c ∷ cells) c.object c.index ≡ true
marks_itself c cells = grind (arith, nat_tests)

-- a cell that may travel by its mark, and has this value
abbrev Travels : Option Plan → List Object → (Side → ℕ → Bool) → (ℕ → ℕ → Bool) → CellAt → Type 0
Travels plan heap is_named_at marked c = ((marked c.object c.index && is_named_at (home plan (header_at heap c.object) c.index) c.object) ≡ true) × (cell_at heap c.object c.index ≡ Some c.value)

all-with_value : (plan : Option Plan) (heap : List Object) (is_named_at : Side → ℕ → Bool) (marked : ℕ → ℕ → Bool) (b : Bool) (v : Option Value) (c : Cell) (rest : List CellAt) → is_named_cell plan heap is_named_at c ≡ b → cell_at heap c.object c.index ≡ v → marked c.object c.index ≡ true → AllByRecursion (Travels plan heap is_named_at marked) rest → AllByRecursion (Travels plan heap is_named_at marked) (with_value_if b c v rest)
all-with_value plan heap is_named_at marked true (Some v) c rest e f m all = ((and_true (marked c.object c.index) (is_named_cell plan heap is_named_at c) m e, f), all)
all-with_value plan heap is_named_at marked true None c rest e f m all = all
all-with_value plan heap is_named_at marked false v c rest e f m all = all

all-carried : (plan : Option Plan) (heap : List Object) (is_named_at : Side → ℕ → Bool) (marked : ℕ → ℕ → Bool) (cells : List Cell) → ((object index : ℕ) → is_marked cells object index ≡ true → marked object index ≡ true) → AllByRecursion (Travels plan heap is_named_at marked) (carried plan heap is_named_at cells)
all-carried plan heap is_named_at marked [] h = tt
all-carried plan heap is_named_at marked (c ∷ cells) h =
    all-with_value plan heap is_named_at marked (is_named_cell plan heap is_named_at c) (cell_at heap c.object c.index) c (carried plan heap is_named_at cells) refl refl
    (h c.object c.index (marks_itself c cells))
    (all-carried plan heap is_named_at marked cells (λ object index e. h object index (or_right ((c.object == object) && (c.index == index)) (is_marked cells object index) e)))

-- ---- each cell that travels is copied

Contains-here : {X : Type 0} (xs : List X) (x : X) → Contains (x ∷ xs) x
Contains-here xs x = (0, omega arith, refl)

Contains-later : {X : Type 0} (y : X) (xs : List X) (x : X) → Contains xs x → Contains (y ∷ xs) x
Contains-later y xs x h = (suc h.0, (let l = h.1 in omega (arith, l)), h.2)

Contains-with_value : (b : Bool) (v : Option Value) (c : Cell) (rest : List CellAt) (x : CellAt) → Contains rest x → Contains (with_value_if b c v rest) x
Contains-with_value true (Some v) c rest x h = Contains-later (record { object = c.object; index = c.index; value = v }) rest x h
Contains-with_value true None c rest x h = h
Contains-with_value false v c rest x h = h

is_cell-true : (c : Cell) (object index : ℕ) → ((c.object == object) && (c.index == index)) ≡ true → (c.object ≡ object) × (c.index ≡ index)
is_cell-true c object index e = grind (arith, nat_tests)

module _ (plan : Option Plan) (heap : List Object) (is_named_at : Side → ℕ → Bool) (object index : ℕ) (v : Value) where
  abbrev told : CellAt
  told = record { object = object; index = index; value = v }

  has-here : (c : Cell) (rest : List CellAt) → c.object ≡ object → c.index ≡ index → is_named_at (home plan (header_at heap object) index) object ≡ true → cell_at heap object index ≡ Some v → Contains (with_value_if (is_named_cell plan heap is_named_at c) c (cell_at heap c.object c.index) rest) told
  has-here c rest o i named has = rw (o, i, named, has) (Contains-here rest told)

  has-step : (b : Bool) (c : Cell) (marked : Bool) (rest : List CellAt) → ((c.object == object) && (c.index == index)) ≡ b → (b || marked) ≡ true → is_named_at (home plan (header_at heap object) index) object ≡ true → cell_at heap object index ≡ Some v → (marked ≡ true → Contains rest told) → Contains (with_value_if (is_named_cell plan heap is_named_at c) c (cell_at heap c.object c.index) rest) told
  has-step true c marked rest e m named has more =
      let p = is_cell-true c object index e in
      has-here c rest p.0 p.1 named has
  has-step false c marked rest e m named has more = Contains-with_value (is_named_cell plan heap is_named_at c) (cell_at heap c.object c.index) c rest told (more m)

  has-carried : (cells : List Cell) → is_marked cells object index ≡ true → is_named_at (home plan (header_at heap object) index) object ≡ true → cell_at heap object index ≡ Some v → Contains (carried plan heap is_named_at cells) told
  has-carried [] m named has = absurd cc
  has-carried (c ∷ cells) m named has =
      has-step ((c.object == object) && (c.index == index)) c (is_marked cells object index) (carried plan heap is_named_at cells) refl m named has
      (λ more. has-carried cells more named has)

-- ---- the whole

are_carried-named : (plan : Option Plan) (m : Machine) (cells : List Cell) → AreEachOnce m.marks cells → AreCarried plan m (carried plan m.heap (is_named m.named) cells)
are_carried-named plan m cells once = record {
  in_order = in_order-carried plan m.heap (is_named m.named) cells once.in_order;
  travel = all-carried plan m.heap (is_named m.named) (is_marked m.marks) cells (λ object index e. sym (once.same object index) ∙ e);
  all = λ object index v t has.
      let p = both_true (is_marked m.marks object index) (is_named m.named (home plan (header_at m.heap object) index) object) t in
      has-carried plan m.heap (is_named m.named) object index v cells (once.same object index ∙ p.0) p.1 has;
}

pub are_carried : (plan : Option Plan) (m : Machine) (n : Named) (cells : List Cell) (out : List CellAt) → IsLookupOf m.named n → AreEachOnce m.marks cells → out ≡ carried plan m.heap (names n) cells → AreCarried plan m out
are_carried plan m n cells out lookup once is =
    subst (AreCarried plan m) (sym (is ∙ ap (λ f. carried plan m.heap f cells) (λ i side object. lookup side object i))) (are_carried-named plan m cells once)
