-- The modes go both ways, and the rule gives one answer.
use Rattle.std.proofs.Common.{◌≡◌, ℕ, List, refl, sym, ap, ◌∙◌, arith}
use Rattle.std.proofs.lemmas.Bool.{both_ways}
use Rattle.px_locks.specs.declared.mode.Mode.TheVariants.{IntentShared, IntentExclusive, Shared, Exclusive}
use Rattle.px_locks.specs.declared.want.Want.{Want}
use Rattle.px_locks.specs.declared.want.Grant.{Grant}
use Rattle.px_locks.specs.declared.book.Asked.TheVariants.{Granted, Waits, Dies}
use Rattle.px_locks.specs.Locks.{IsFree, IsOldest}
use Rattle.px_locks.specs.Laws.{ModesGoBothWays, HaveOwnStamps, AnswersAreOne}

pub modes_go_both_ways : ModesGoBothWays
modes_go_both_ways IntentShared IntentShared = refl
modes_go_both_ways IntentShared IntentExclusive = refl
modes_go_both_ways IntentShared Shared = refl
modes_go_both_ways IntentShared Exclusive = refl
modes_go_both_ways IntentExclusive IntentShared = refl
modes_go_both_ways IntentExclusive IntentExclusive = refl
modes_go_both_ways IntentExclusive Shared = refl
modes_go_both_ways IntentExclusive Exclusive = refl
modes_go_both_ways Shared IntentShared = refl
modes_go_both_ways Shared IntentExclusive = refl
modes_go_both_ways Shared Shared = refl
modes_go_both_ways Shared Exclusive = refl
modes_go_both_ways Exclusive IntentShared = refl
modes_go_both_ways Exclusive IntentExclusive = refl
modes_go_both_ways Exclusive Shared = refl
modes_go_both_ways Exclusive Exclusive = refl

not_free : (grants : List Grant) (session : ℕ) (wants : List Want) (x : ℕ) (g : Grant) → IsFree grants session wants → IsOldest grants session wants x g → ⊥
not_free grants session wants x g f o = both_ways _ (f g o.stands) o.against

same_stamps : (grants : List Grant) (session : ℕ) (wants : List Want) (x y : ℕ) (g h : Grant) → IsOldest grants session wants x g → IsOldest grants session wants y h → g.stamp ≡ h.stamp
same_stamps grants session wants x y g h a b =
    let p = a.least h b.stands b.against in
    let q = b.least g a.stands a.against in
    omega arith

same_holder : (grants : List Grant) (session : ℕ) (wants : List Want) (x y : ℕ) (g h : Grant) → HaveOwnStamps grants → IsOldest grants session wants x g → IsOldest grants session wants y h → x ≡ y
same_holder grants session wants x y g h own a b = sym a.of_holder ∙ own g h a.stands b.stands (same_stamps grants session wants x y g h a b) ∙ b.of_holder

pub answers_are_one : AnswersAreOne
answers_are_one gs s t ws Granted Granted own p q = refl
answers_are_one gs s t ws Granted (Waits y) own p q = absurd (not_free gs s ws y q.0 p q.1)
answers_are_one gs s t ws Granted (Dies y) own p q = absurd (not_free gs s ws y q.0 p q.1)
answers_are_one gs s t ws (Waits x) Granted own p q = absurd (not_free gs s ws x p.0 q p.1)
answers_are_one gs s t ws (Waits x) (Waits y) own p q = ap (λ (z : ℕ). Waits z) (same_holder gs s ws x y p.0 q.0 own p.1 q.1)
answers_are_one gs s t ws (Waits x) (Dies y) own p q = let e = same_stamps gs s ws x y p.0 q.0 p.1 q.1 in absurd (omega (arith, p.2, q.2))
answers_are_one gs s t ws (Dies x) Granted own p q = absurd (not_free gs s ws x p.0 q p.1)
answers_are_one gs s t ws (Dies x) (Waits y) own p q = let e = same_stamps gs s ws x y p.0 q.0 p.1 q.1 in absurd (omega (arith, p.2, q.2))
answers_are_one gs s t ws (Dies x) (Dies y) own p q = ap (λ (z : ℕ). Dies z) (same_holder gs s ws x y p.0 q.0 own p.1 q.1)
