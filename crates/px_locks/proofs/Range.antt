-- Grants of an item, found by the order.
use Rattle.std.proofs.Common.{◌≡◌, ℕ, ℤ, ◌+◌, ◌-◌, ◌*◌, ◌<◌, ◌≤◌, Bool, true, false, ◌==◌, List, [], ◌∷◌, ◌++◌, length, take, drop, filter, get_or, Option, Some, None, refl, sym, ap, ◌∙◌, subst, arith, suc, inl, inr, append-nil}
use Rattle.std.specs.List.{insert}
use Rattle.std.specs.List.Sorted.{IsPartitionPoint}
use Rattle.std.proofs.lemmas.Bool.{and_parts, both_ways, cases_lt, cond-true, cond-false, eqb-true, eq-eqb, ne_eqb, false_from_ne_true}
use Rattle.std.proofs.lemmas.Bool.Decides.{Decides-int_eq}
use Rattle.std.proofs.lemmas.List.{take-append-drop, get_or-take, get_or-drop, length-take-le, length-drop}
use Rattle.std.proofs.lemmas.List.Elements.{filter-append}
use Rattle.std.proofs.lemmas.List.Kept.{IsNonDecreasingBy-filter}
use Rattle.std.proofs.lemmas.List.Sorted.{IsNonDecreasingBy-insert, IsNonDecreasingBy-short}
use Rattle.px_locks.specs.declared.want.Item.{Item}
use Rattle.px_locks.specs.declared.want.Want.{Want}
use Rattle.px_locks.specs.declared.want.Grant.{Grant}
use Rattle.px_locks.specs.Locks.{same_key, same_item, is_against, same_grant}
use Rattle.px_locks.specs.Spots.{bits_of, spot_of_item, spot_of, IsInOrder}

filter_none : {X : Type 0} (p : X → Bool) (xs : List X) → ((k : ℕ) (d : X) → k < length xs → p (get_or xs k d) ≡ false) → filter p xs ≡ []
filter_none p [] h = refl
filter_none p (x ∷ xs) h = cond-false _ _ _ (h 0 x (omega arith)) ∙ filter_none p xs (λ k d l. h (suc k) d (omega arith))

filter_all : {X : Type 0} (p : X → Bool) (xs : List X) → ((k : ℕ) (d : X) → k < length xs → p (get_or xs k d) ≡ true) → filter p xs ≡ xs
filter_all p [] h = refl
filter_all p (x ∷ xs) h = cond-true _ _ _ (h 0 x (omega arith)) ∙ ap (λ (ys : List _). x ∷ ys) (filter_all p xs (λ k d l. h (suc k) d (omega arith)))

-- in a list in order of n, those of one number stand between two points
pub between : {X : Type 0} (n : X → ℕ) (t : ℕ) (xs : List X) (lo hi : ℕ) → lo ≤ length xs → hi ≤ length xs → IsPartitionPoint (λ x. n x < t) (λ x. t ≤ n x) xs lo → IsPartitionPoint (λ x. n x < t + 1) (λ x. t + 1 ≤ n x) xs hi → lo ≤ hi → take (hi - lo) (drop lo xs) ≡ filter (λ x. n x == t) xs
between {X} n t xs lo hi a b p q le =
    let m = hi - lo in
    let test : X → Bool = λ x. n x == t in
    let len : length (drop lo xs) ≡ length xs - lo = length-drop lo xs in
    let len_m : length (take m (drop lo xs)) ≡ m = length-take-le m (drop lo xs) (omega arith) in
    let len_lo : length (take lo xs) ≡ lo = length-take-le lo xs a in
    let front : filter test (take lo xs) ≡ [] = filter_none test (take lo xs) (λ k d l.
    let i : k < lo = omega arith in
    ne_eqb _ _ (λ e. let less = p.0 k d (omega arith) i in let same : n (get_or xs k d) ≡ t = ap n (sym (get_or-take lo xs k d i)) ∙ e in omega arith)) in
    let middle : filter test (take m (drop lo xs)) ≡ take m (drop lo xs) = filter_all test (take m (drop lo xs)) (λ k d l.
    let i : k < m = omega arith in
    let e : get_or (take m (drop lo xs)) k d ≡ get_or xs (lo + k) d = get_or-take m (drop lo xs) k d i ∙ get_or-drop lo xs k d in
    let least = p.1 (lo + k) d (omega arith) (omega arith) in
    let most = q.0 (lo + k) d (omega arith) (omega arith) in
    let same : n (get_or xs (lo + k) d) ≡ t = omega arith in
    eq-eqb _ _ (ap n e ∙ same)) in
    let rest : filter test (drop m (drop lo xs)) ≡ [] = filter_none test (drop m (drop lo xs)) (λ k d l.
    let long = length-drop m (drop lo xs) in
    let e : get_or (drop m (drop lo xs)) k d ≡ get_or xs (lo + (m + k)) d = get_or-drop m (drop lo xs) k d ∙ get_or-drop lo xs (m + k) d in
    let more = q.1 (lo + (m + k)) d (omega arith) (omega arith) in
    ne_eqb _ _ (λ u. let same : n (get_or xs (lo + (m + k)) d) ≡ t = ap n (sym e) ∙ u in omega arith)) in
    let tail : filter test (drop lo xs) ≡ take m (drop lo xs) =
    ap (filter test) (sym (take-append-drop m (drop lo xs))) ∙ filter-append test (take m (drop lo xs)) (drop m (drop lo xs)) ∙ (λ j. middle j ++ rest j) ∙ append-nil _ in
    sym (ap (filter test) (sym (take-append-drop lo xs)) ∙ filter-append test (take lo xs) (drop lo xs) ∙ (λ j. front j ++ tail j))

pub ordered : {X : Type 0} (n : X → ℕ) (t : ℕ) (xs : List X) (lo hi : ℕ) → lo ≤ length xs → IsPartitionPoint (λ x. n x < t) (λ x. t ≤ n x) xs lo → IsPartitionPoint (λ x. n x < t + 1) (λ x. t + 1 ≤ n x) xs hi → lo ≤ hi
ordered n t [] lo hi a p q = omega arith
ordered n t (x ∷ xs) lo hi a p q = elim (cases_lt hi lo) [
  | inr l ↦ omega (arith, l)
  | inl g ↦
      let less = p.0 hi x (omega arith) g in
      let more = q.1 hi x (omega arith) (omega arith) in
      omega arith
]

same_bits : (a b : Option ℤ) → same_key a b ≡ true → bits_of a ≡ bits_of b
same_bits None None h = refl
same_bits None (Some y) h = absurd (both_ways _ refl h)
same_bits (Some x) None h = absurd (both_ways _ refl h)
same_bits (Some x) (Some y) h = ap (λ (z : ℤ). bits_of (Some z)) ((Decides-int_eq x y).0 h)

pub same_spot : (a b : Item) → same_item a b ≡ true → spot_of_item a ≡ spot_of_item b
same_spot a b h =
    let p = and_parts _ _ h in
    λ j. eqb-true a.table b.table p.0 j * 18446744073709551616 + same_bits a.key b.key p.1 j

pub not_against : (s : ℕ) (w : Want) (g : Grant) → (spot_of g == spot_of_item w.item) ≡ false → is_against s w g ≡ false
not_against s w g h = false_from_ne_true _ (λ k. both_ways _ h (eq-eqb _ _ (same_spot g.want.item w.item (and_parts _ _ (and_parts _ _ k).0).1)))

pub not_same : (g x : Grant) → (spot_of x == spot_of_item g.want.item) ≡ false → same_grant x g ≡ false
not_same g x h = false_from_ne_true _ (λ k. both_ways _ h (eq-eqb _ _ (same_spot x.want.item g.want.item (and_parts _ _ (and_parts _ _ k).0).1)))

-- ---- lists in order

pub in_order_none : IsInOrder []
unfolding IsInOrder
in_order_none = IsNonDecreasingBy-short spot_of [] (omega arith)

pub in_order_filter : (p : Grant → Bool) (gs : List Grant) → IsInOrder gs → IsInOrder (filter p gs)
unfolding IsInOrder
in_order_filter p gs h = IsNonDecreasingBy-filter spot_of p gs h

pub in_order_insert : (g : Grant) (n : ℕ) (gs : List Grant) → IsInOrder gs → n ≤ length gs → IsPartitionPoint (λ x. spot_of x < spot_of g) (λ x. spot_of g ≤ spot_of x) gs n → IsInOrder (insert gs n g)
unfolding IsInOrder
in_order_insert g n gs h l p = IsNonDecreasingBy-insert spot_of gs n g h l (λ k d i. let less = p.0 k d (omega arith) i in omega arith) (λ k d i j. p.1 k d i j)

-- so is one with a grant more, at the place that was found in a slice of it
pub in_order_put : (g : Grant) (n t : ℕ) (slice gs : List Grant) → slice ≡ gs → t ≡ spot_of g → IsInOrder gs → n ≤ length slice → IsPartitionPoint (λ x. spot_of x < t) (λ x. t ≤ spot_of x) slice n → IsInOrder (insert gs n g)
in_order_put g n t slice gs e s h l p =
    let point : IsPartitionPoint (λ x. spot_of x < spot_of g) (λ x. spot_of g ≤ spot_of x) gs n = subst (λ (u : ℕ). IsPartitionPoint (λ x. spot_of x < u) (λ x. u ≤ spot_of x) gs n) s (subst (λ (xs : List Grant). IsPartitionPoint (λ x. spot_of x < t) (λ x. t ≤ spot_of x) xs n) e p) in
    in_order_insert g n gs h (subst (λ (xs : List Grant). n ≤ length xs) e l) point
