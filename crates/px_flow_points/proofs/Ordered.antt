-- Sorted lists of what statements touch.
use Rattle.std.proofs.Common.{◌≡◌, ℕ, List, [], refl, sym, ap, ◌∙◌, inr, ⊎_elim, subst}
use Rattle.std.specs.declared.cmp.Ordering.{Ordering}
use Rattle.std.specs.declared.cmp.Ordering.TheVariants.{Less, Equal, Greater}
use Rattle.std.specs.Ordering.{nat_cmp, ordering_then}
use Rattle.std.specs.FinMap.{nat_cmp-IsAntisymmetric}
use Rattle.std.specs.List.Sorted.{IsStrictlySortedBy}
use Rattle.px_constraints.specs.System.{At}
use Rattle.px_flow_points.specs.declared.part.Part.{Part}
use Rattle.px_flow_points.specs.declared.part.Part.TheVariants.{Field, Elements}
use Rattle.px_flow_points.specs.declared.part.Pair.{Pair}
use Rattle.px_flow_points.specs.declared.pairs.Touch.{Touch}
use Rattle.px_flow_points.specs.Order.{put_all}
use Rattle.px_flow_points.specs.ByNode.{pair, part_cmp, pair_cmp, touch_cmp, AreAll}
use Rattle.px_flow_points.proofs.Elements.{in_none}
use Rattle.px_flow_points.proofs.Inserting.{put_to, put_back}

pub then_first : (a b : Ordering) → ordering_then a b ≡ Equal → a ≡ Equal
then_first Less b h = h
then_first Equal b h = refl
then_first Greater b h = h

pub then_second : (a b : Ordering) → ordering_then a b ≡ Equal → b ≡ Equal
then_second Less b h = cc
then_second Equal b h = h
then_second Greater b h = cc

pub same_number : (a b : ℕ) → nat_cmp a b ≡ Equal → a ≡ b
same_number a b h = nat_cmp-IsAntisymmetric a b h

pub same_part : (a b : Part) → part_cmp a b ≡ Equal → a ≡ b
same_part (Field m) (Field n) h = ap Field (same_number m n h)
same_part (Field m) Elements h = cc
same_part Elements (Field n) h = cc
same_part Elements Elements h = refl

pub same_pair : (a b : Pair) → pair_cmp a b ≡ Equal → a ≡ b
same_pair a b h =
    let s = same_number a.site b.site (then_first (nat_cmp a.site b.site) (part_cmp a.part b.part) h) in
    let p = same_part a.part b.part (then_second (nat_cmp a.site b.site) (part_cmp a.part b.part) h) in
    ap (λ (n : ℕ). pair n a.part) s ∙ ap (λ (q : Part). pair b.site q) p

pub same_touch : (a b : Touch) → touch_cmp a b ≡ Equal → a ≡ b
same_touch a b h =
    let n = same_number a.node b.node (then_first (nat_cmp a.node b.node) (pair_cmp a.pair b.pair) h) in
    let p = same_pair a.pair b.pair (then_second (nat_cmp a.node b.node) (pair_cmp a.pair b.pair) h) in
    ap (λ (k : ℕ). by_pair k a.pair) n ∙ ap (λ (q : Pair). by_pair b.node q) p
  where
    by_pair : ℕ → Pair → Touch
    by_pair k q = record { node = k; pair = q }

pub are_all : (touches keys all : List Touch) → keys ≡ put_all touch_cmp [] touches → all ≡ keys → IsStrictlySortedBy touch_cmp all → AreAll touches all
are_all touches keys all k a rise = record {
  same = λ t. record {
    to = λ h. ⊎_elim (λ (u : At [] t). absurd (in_none t u)) (λ (u : At touches t). u) (put_to touch_cmp same_touch touches [] t (subst (λ (z : List Touch). At z t) (a ∙ k) h));
    back = λ h. subst (λ (z : List Touch). At z t) (sym (a ∙ k)) (put_back touch_cmp same_touch touches [] t (inr h));
  };
  rise = rise;
}
