use Rattle.std.proofs.Common.{◌++◌, List, ap, ◌∙◌}
use Rattle.px_depend.specs.declared.places.Place.{Place}
use Rattle.px_depend.specs.Summaries.{pairs}
use Rattle.px_depend.proofs.Sums.{then_sum, adds_over}
use Rattle.px_depend.proofs.flows.then.Goals as goal

pub returns-clause-sum : goal.returns-clause-sum
returns-clause-sum c = λ f g A B. let F = c.in_ok-whole.ensures in then_sum c.args.first.now c.args.second.now c.in_ok-whole.whole f g A B F.leave F.arrive F.written F.completes

pub returns-clause-over : goal.returns-clause-over
returns-clause-over c = λ f g A B. adds_over c.args.types.now c.args.first.now c.args.second.now f g c.args.into.now.items c.pair_up.new.into.items A B
    (c.in_ok-pair_up.ensures
    ∙ ap (λ (z : List Place). c.args.into.now.items ++ pairs c.args.types.now z c.as_slice-2.result.now) c.as_slice.ensures.value
    ∙ ap (λ (z : List Place). c.args.into.now.items ++ pairs c.args.types.now c.args.first.now.leave.items z) c.as_slice-2.ensures.value)
