-- Marks that are sorted and freed of repeats.
use Rattle.std.proofs.Common.{◌≡◌, ℕ, Bool, true, false, ◌&&◌, ◌||◌, ◌==◌, List, [], ◌∷◌, map, cond, refl, sym, ap, ◌∙◌, subst, arith}
use Rattle.std.specs.Cmp.{IsTotalOrder}
use Rattle.std.specs.Ordering.{nat_cmp, ordering_then, eq_by_cmp}
use Rattle.std.specs.declared.cmp.Ordering.{Ordering}
use Rattle.std.specs.declared.cmp.Ordering.TheVariants.{Less}
use Rattle.std.specs.List.{dedup, dedup_from, list_any}
use Rattle.std.specs.List.Sorted.{IsPermutation, IsSorted, IsStrictlySortedBy}
use Rattle.std.proofs.lemmas.Bool.Decides.{nat_tests}
use Rattle.std.proofs.lemmas.Cmp.{nat_cmp_total, on_total, then_total}
use Rattle.std.proofs.lemmas.List.Kept.{IsStrictlySortedBy-dedup}
use Rattle.std.proofs.lemmas.List.Sorted.{list_any-IsPermutation}
use Rattle.px_code.specs.declared.cell.Cell.{Cell}
use Rattle.px_wire.specs.Order.{IsBefore, AreInOrder}
use Rattle.px_half.specs.Carry.{place_of, AreEachOnce}
use Rattle.px_half.specs.Messages.{is_marked}

-- the order and the equality of cells
abbrev pub by_cell : Cell → Cell → Ordering
by_cell x y = ordering_then (nat_cmp x.object y.object) (nat_cmp x.index y.index)

abbrev pub same_cell : Cell → Cell → Bool
same_cell x y = (x.object == y.object) && (x.index == y.index)

by_cell-total : IsTotalOrder by_cell
by_cell-total = then_total (on_total (λ (c : Cell). c.object) nat_cmp_total) (on_total (λ (c : Cell). c.index) nat_cmp_total)

same_cell-by_cell : (x y : Cell) → same_cell x y ≡ eq_by_cmp by_cell x y
same_cell-by_cell x y = grind (arith, nat_tests)

less-before : (x y : Cell) → by_cell x y ≡ Less → IsBefore (place_of x) (place_of y)
less-before x y e = grind (arith, nat_tests)

in_order-sorted : (cells : List Cell) → IsStrictlySortedBy by_cell cells → AreInOrder (map place_of cells)
unfolding IsStrictlySortedBy
in_order-sorted [] h = tt
in_order-sorted (c ∷ []) h = tt
in_order-sorted (c ∷ d ∷ cells) h = (less-before c d h.0.0, in_order-sorted (d ∷ cells) h.1)

-- ---- the same cells

abbrev is_cell : ℕ → ℕ → Cell → Bool
is_cell object index c = (c.object == object) && (c.index == index)

marked-any : (marks : List Cell) (object index : ℕ) → is_marked marks object index ≡ list_any (is_cell object index) marks
marked-any [] object index = refl
marked-any (c ∷ marks) object index = ap (λ b. is_cell object index c || b) (marked-any marks object index)

same-marks : (x y : Cell) (object index : ℕ) → same_cell x y ≡ true → is_cell object index x ≡ is_cell object index y
same-marks x y object index e = grind (arith, nat_tests)

or_twice : (a b rest : Bool) → a ≡ b → (a || (b || rest)) ≡ (a || rest)
or_twice true b rest e = refl
or_twice false b rest e = ap (λ z. z || rest) (sym e)

marked-dedup_step : (b : Bool) (k c : Cell) (cells kept other : List Cell) (object index : ℕ) → same_cell c k ≡ b → is_marked kept object index ≡ is_marked (k ∷ cells) object index → is_marked other object index ≡ is_marked (c ∷ cells) object index → is_marked (cond b kept (k ∷ other)) object index ≡ is_marked (k ∷ c ∷ cells) object index
marked-dedup_step true k c cells kept other object index e same more =
    same ∙ sym (or_twice (is_cell object index k) (is_cell object index c) (is_marked cells object index) (sym (same-marks c k object index e)))
marked-dedup_step false k c cells kept other object index e same more = ap (λ b. is_cell object index k || b) more

marked-dedup_from : (k : Cell) (cells : List Cell) (object index : ℕ) → is_marked (dedup_from same_cell k cells) object index ≡ is_marked (k ∷ cells) object index
marked-dedup_from k [] object index = refl
marked-dedup_from k (c ∷ cells) object index =
    marked-dedup_step (same_cell c k) k c cells (dedup_from same_cell k cells) (dedup_from same_cell c cells) object index refl (marked-dedup_from k cells object index) (marked-dedup_from c cells object index)

marked-dedup : (cells : List Cell) (object index : ℕ) → is_marked (dedup same_cell cells) object index ≡ is_marked cells object index
marked-dedup [] object index = refl
marked-dedup (c ∷ cells) object index = marked-dedup_from c cells object index

pub each_once-sorted : (marks sorted cells : List Cell) → IsPermutation marks sorted → IsSorted by_cell sorted → cells ≡ dedup same_cell sorted → AreEachOnce marks cells
each_once-sorted marks sorted cells moved in_order is = record {
  in_order = in_order-sorted cells (subst (IsStrictlySortedBy by_cell) (sym is) (IsStrictlySortedBy-dedup by_cell-total same_cell-by_cell sorted in_order));
  same = λ object index.
      ap (λ xs. is_marked xs object index) is
      ∙ marked-dedup sorted object index
      ∙ marked-any sorted object index
      ∙ sym (list_any-IsPermutation (is_cell object index) marks sorted moved)
      ∙ sym (marked-any marks object index);
}
