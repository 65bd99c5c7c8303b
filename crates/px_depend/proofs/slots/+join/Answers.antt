use Rattle.std.proofs.Common.{◌/◌, List, length, take, drop, sym, subst, arith}
use Rattle.px_depend.specs.declared.summary.Summary.{Summary}
use Rattle.px_depend.specs.Summaries.{AreSummaries, line}
use Rattle.px_depend.proofs.Crossing.{are_taken, are_left, halves_sum, halves_cross}
use Rattle.px_depend.proofs.Loops.{few_sum, few_over}
use Rattle.px_depend.proofs.slots.+join.Goals as goal

pub returns-then-list-lt2-clause-sum : goal.returns-then-list-lt2-clause-sum
returns-then-list-lt2-clause-sum t c = λ fs A. few_sum c.args.list.now fs c.in_ok-one.one (omega arith) c.in_ok-one.ensures A

pub returns-then-list-lt2-clause-over : goal.returns-then-list-lt2-clause-over
returns-then-list-lt2-clause-over t c = λ fs A. few_over c.args.types.now c.args.list.now fs c.args.into.now.items (omega arith) A

pub returns-clause-sum : goal.returns-clause-sum
returns-clause-sum t c = λ fs A.
    let n = length c.args.list.now / 2 in
    halves_sum n c.in_ok-whole.whole fs (c.in_ok-whole.ensures.sum (line (take n fs)) (line (drop n fs))
    (c.in_ok-first.ensures.sum (take n fs) (subst (λ (z : List Summary). AreSummaries z (take n fs)) (sym c.split_at.ensures.front) (are_taken n c.args.list.now fs A)))
    (c.in_ok-second.ensures.sum (drop n fs) (subst (λ (z : List Summary). AreSummaries z (drop n fs)) (sym c.split_at.ensures.back) (are_left n c.args.list.now fs A))))

pub returns-clause-over : goal.returns-clause-over
returns-clause-over t c = λ fs A.
    let n = length c.args.list.now / 2 in
    let taken = subst (λ (z : List Summary). AreSummaries z (take n fs)) (sym c.split_at.ensures.front) (are_taken n c.args.list.now fs A) in
    let left = subst (λ (z : List Summary). AreSummaries z (drop n fs)) (sym c.split_at.ensures.back) (are_left n c.args.list.now fs A) in
    halves_cross c.args.types.now n fs c.args.into.now.items c.join.new.into.items c.join-2.new.into.items c.then.new.into.items (c.in_ok-first.ensures.over (take n fs) taken) (c.in_ok-second.ensures.over (drop n fs) left)
    (c.in_ok-whole.ensures.over (line (take n fs)) (line (drop n fs)) (c.in_ok-first.ensures.sum (take n fs) taken) (c.in_ok-second.ensures.sum (drop n fs) left))
