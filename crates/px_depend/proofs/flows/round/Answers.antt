use Rattle.std.proofs.Common.{◌++◌, List, ap, ◌∙◌}
use Rattle.px_depend.specs.declared.places.Place.{Place}
use Rattle.px_depend.specs.Summaries.{pairs, IsOver, in_turn, rounds}
use Rattle.px_depend.proofs.Sums.{round_sum, adds_over}
use Rattle.px_depend.proofs.Branching.{adds_two}
use Rattle.px_depend.proofs.flows.round.Goals as goal

pub returns-clause-sum : goal.returns-clause-sum
returns-clause-sum c = λ f g A B. let F = c.in_ok-whole.ensures in round_sum c.args.head.now c.args.body.now c.in_ok-whole.whole f g A B F.leave F.arrive F.written F.completes

pub returns-clause-over : goal.returns-clause-over
returns-clause-over c = λ f g A B. let F = c.in_ok-whole.ensures in adds_two c.args.into.now.items c.then.new.into.items c.pair_up.new.into.items (IsOver c.args.types.now f g) (IsOver c.args.types.now (in_turn f g) (rounds f g))
    (c.in_ok-once.ensures.over f g A B)
    (adds_over c.args.types.now c.in_ok-once.once c.in_ok-whole.whole (in_turn f g) (rounds f g) c.then.new.into.items c.pair_up.new.into.items (c.in_ok-once.ensures.sum f g A B) (round_sum c.args.head.now c.args.body.now c.in_ok-whole.whole f g A B F.leave F.arrive F.written F.completes)
    (c.in_ok-pair_up.ensures
    ∙ ap (λ (z : List Place). c.then.new.into.items ++ pairs c.args.types.now z c.as_slice-2.result.now) c.as_slice.ensures.value
    ∙ ap (λ (z : List Place). c.then.new.into.items ++ pairs c.args.types.now c.in_ok-once.once.leave.items z) c.as_slice-2.ensures.value))
