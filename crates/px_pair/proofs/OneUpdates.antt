-- The updates of a machine are fixed by it.
use Rattle.std.proofs.Common.{◌≡◌, ℕ, zero, suc, ◌<◌, ◌⊎◌, inl, inr, true, List, [], ◌∷◌, map, length, get_or, Option, Some, refl, sym, subst, ◌∙◌, arith}
use Rattle.std.specs.List.{AllByRecursion, Contains}
use Rattle.px_value.specs.Heap.{cell_at}
use Rattle.px_code.specs.declared.plan.Plan.{Plan}
use Rattle.px_code.specs.Machine.{Machine}
use Rattle.px_wire.specs.declared.cell.CellAt.{CellAt}
use Rattle.px_wire.specs.declared.updates.Updates.{Updates}
use Rattle.px_wire.specs.Order.{IsBefore, AreInOrder, cell_place}
use Rattle.px_half.specs.Messages.{travels, AreCarried, AreUpdates}

-- ---- lists in order that have the same cells

-- a cell is one of these
abbrev Has : List CellAt → CellAt → Type 0
Has [] c = ⊥
Has (x ∷ xs) c = (x ≡ c) ⊎ Has xs c

has_at : (xs : List CellAt) (c : CellAt) (k : ℕ) → k < length xs → get_or xs k c ≡ c → Has xs c
has_at [] c k below is = absurd (omega (arith, below))
has_at (x ∷ xs) c zero below is = inl is
has_at (x ∷ xs) c (suc k) below is = inr (has_at xs c k (omega (arith, below)) is)

not_both_before : (a b : ℕ × ℕ) → IsBefore a b → IsBefore b a → ⊥
not_both_before a b h k = grind arith

before-trans : (a b c : ℕ × ℕ) → IsBefore a b → IsBefore b c → IsBefore a c
before-trans a b c h k = grind arith

before_later : (x c : CellAt) (xs : List CellAt) → AreInOrder (map cell_place (x ∷ xs)) → Has xs c → IsBefore (cell_place x) (cell_place c)
before_later x c [] order h = absurd h
before_later x c (y ∷ xs) order (inl e) = subst (λ (d : CellAt). IsBefore (cell_place x) (cell_place d)) e order.0
before_later x c (y ∷ xs) order (inr h) = before-trans (cell_place x) (cell_place y) (cell_place c) order.0 (before_later y c xs order.1 h)

order_of_rest : (x : CellAt) (xs : List CellAt) → AreInOrder (map cell_place (x ∷ xs)) → AreInOrder (map cell_place xs)
order_of_rest x [] order = tt
order_of_rest x (y ∷ xs) order = order.1

same_first : (x y : CellAt) (xs ys : List CellAt) → AreInOrder (map cell_place (x ∷ xs)) → AreInOrder (map cell_place (y ∷ ys)) → Has (y ∷ ys) x → Has (x ∷ xs) y → x ≡ y
same_first x y xs ys in_order in_order' (inl e) h = sym e
same_first x y xs ys in_order in_order' (inr h) (inl e) = e
same_first x y xs ys in_order in_order' (inr h) (inr k) = absurd (not_both_before (cell_place x) (cell_place y) (before_later x y xs in_order k) (before_later y x ys in_order' h))

has_in_rest : (x y c : CellAt) (xs ys : List CellAt) → AreInOrder (map cell_place (x ∷ xs)) → x ≡ y → Has xs c → Has (y ∷ ys) c → Has ys c
has_in_rest x y c xs ys in_order same h (inl e) =
    let itself : IsBefore (cell_place x) (cell_place x) = subst (λ (d : CellAt). IsBefore (cell_place x) (cell_place d)) (sym (same ∙ e)) (before_later x c xs in_order h) in
    absurd (not_both_before (cell_place x) (cell_place x) itself itself)
has_in_rest x y c xs ys in_order same h (inr k) = k

same_cells : (xs ys : List CellAt) → AreInOrder (map cell_place xs) → AreInOrder (map cell_place ys) → ((c : CellAt) → Has xs c → Has ys c) → ((c : CellAt) → Has ys c → Has xs c) → xs ≡ ys
same_cells [] [] in_order in_order' into from = refl
same_cells [] (y ∷ ys) in_order in_order' into from = absurd (from y (inl refl))
same_cells (x ∷ xs) [] in_order in_order' into from = absurd (into x (inl refl))
same_cells (x ∷ xs) (y ∷ ys) in_order in_order' into from =
    let same : x ≡ y = same_first x y xs ys in_order in_order' (into x (inl refl)) (from y (inl refl)) in
    let rest : xs ≡ ys = same_cells xs ys (order_of_rest x xs in_order) (order_of_rest y ys in_order')
    (λ c h. has_in_rest x y c xs ys in_order same h (into c (inr h)))
    (λ c h. has_in_rest y x c ys xs in_order' (sym same) h (from c (inr h))) in
    λ i. same i ∷ rest i

-- ---- the cells that travel

each_of : (P : CellAt → Type 0) (xs : List CellAt) (c : CellAt) → AllByRecursion P xs → Has xs c → P c
each_of P [] c all h = absurd h
each_of P (x ∷ xs) c all (inl e) = subst P e all.0
each_of P (x ∷ xs) c all (inr h) = each_of P xs c all.1 h

module _ (plan : Option Plan) (m : Machine) where
  -- what one list of them has, so does another
  has_too : (xs ys : List CellAt) → AreCarried plan m xs → AreCarried plan m ys → (c : CellAt) → Has xs c → Has ys c
  has_too xs ys are are' c h =
      let its : (travels plan m c.object c.index ≡ true) × (cell_at m.heap c.object c.index ≡ Some c.value) = each_of (λ (d : CellAt). (travels plan m d.object d.index ≡ true) × (cell_at m.heap d.object d.index ≡ Some d.value)) xs c are.travel h in
      let there : Contains ys c = are'.all c.object c.index c.value its.0 its.1 in
      has_at ys c there.0 there.1 there.2

  pub one_updates : (known : ℕ) (u v : Updates) → AreUpdates plan known m u → AreUpdates plan known m v → u ≡ v
  one_updates known u v are are' =
      let cells : u.cells ≡ v.cells = same_cells u.cells v.cells are.cells.in_order are'.cells.in_order (has_too u.cells v.cells are.cells are'.cells) (has_too v.cells u.cells are'.cells are.cells) in
      let headers : u.headers ≡ v.headers = are.headers ∙ sym are'.headers in
      λ i. record { headers = headers i; cells = cells i }
