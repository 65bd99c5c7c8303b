use Rattle.px_depend.proofs.Sums.{either_sum}
use Rattle.px_depend.proofs.flows.either.Goals as goal

pub returns : goal.returns
returns c = λ f g A B. let F = c.in_ok-whole.ensures in either_sum c.args.left.now c.args.right.now c.in_ok-whole.whole f g A B F.leave F.arrive F.written F.completes
