use Rattle.px_two_ends.proofs.Own.{nodes_are_own}
use Rattle.px_two_ends.proofs.law.nodes_are_own.Goals as goal

pub returns : goal.returns
returns c = nodes_are_own
