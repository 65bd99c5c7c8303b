-- The pairs of a node rise where all that is touched rises.
use Rattle.std.proofs.Common.{◌≡◌, ℕ, nat_eq, Bool, true, false, List, [], ◌∷◌, refl, sym, ap, ◌∙◌, if◌then◌else◌}
use Rattle.std.specs.List.{AllByRecursion}
use Rattle.std.specs.declared.cmp.Ordering.{Ordering}
use Rattle.std.specs.declared.cmp.Ordering.TheVariants.{Less, Equal, Greater}
use Rattle.std.specs.Ordering.{nat_cmp, ordering_then}
use Rattle.std.specs.List.Sorted.{IsStrictlySortedBy}
use Rattle.std.proofs.lemmas.Cmp.{nat_cmp_total, tied_itself}
use Rattle.px_flow_points.specs.declared.pairs.Touch.{Touch}
use Rattle.px_flow_points.specs.ByNode.{pairs_at, pair_cmp, touch_cmp}
use Rattle.px_flow_points.proofs.TouchWhere.{equal_numbers}

no_less : (n : ℕ) → nat_cmp n n ≡ Equal
no_less n = tied_itself nat_cmp_total n

after_equal : (a b : Ordering) → a ≡ Equal → ordering_then a b ≡ Less → b ≡ Less
after_equal Equal b e h = h
after_equal Less b e h = cc
after_equal Greater b e h = cc

below_if : (b : Bool) (node : ℕ) (t u : Touch) (ts : List Touch) → t.node ≡ node → nat_eq node u.node ≡ b → touch_cmp t u ≡ Less → AllByRecursion (λ q. pair_cmp t.pair q ≡ Less) (pairs_at node ts) → AllByRecursion (λ q. pair_cmp t.pair q ≡ Less) (if b then u.pair ∷ pairs_at node ts else pairs_at node ts)
below_if true node t u ts n e h rest = (after_equal (nat_cmp t.node u.node) (pair_cmp t.pair u.pair) (ap (λ (k : ℕ). nat_cmp t.node k) (sym (equal_numbers node u.node e) ∙ sym n) ∙ no_less t.node) h, rest)
below_if false node t u ts n e h rest = rest

below : (node : ℕ) (t : Touch) (ts : List Touch) → t.node ≡ node → AllByRecursion (λ u. touch_cmp t u ≡ Less) ts → AllByRecursion (λ q. pair_cmp t.pair q ≡ Less) (pairs_at node ts)
below node t [] n all = tt
below node t (u ∷ ts) n all = below_if (nat_eq node u.node) node t u ts n refl all.0 (below node t ts n all.1)

rise_if : (b : Bool) (node : ℕ) (t : Touch) (ts : List Touch) → nat_eq node t.node ≡ b → AllByRecursion (λ u. touch_cmp t u ≡ Less) ts → IsStrictlySortedBy pair_cmp (pairs_at node ts) → IsStrictlySortedBy pair_cmp (if b then t.pair ∷ pairs_at node ts else pairs_at node ts)
unfolding IsStrictlySortedBy
rise_if true node t ts e all rest = (below node t ts (sym (equal_numbers node t.node e)) all, rest)
rise_if false node t ts e all rest = rest

pub pairs_rise : (node : ℕ) (ts : List Touch) → IsStrictlySortedBy touch_cmp ts → IsStrictlySortedBy pair_cmp (pairs_at node ts)
unfolding IsStrictlySortedBy
pairs_rise node [] h = tt
pairs_rise node (t ∷ ts) h = rise_if (nat_eq node t.node) node t ts refl h.0 (pairs_rise node ts h.1)
