use Rattle.px_pair.proofs.StackKeeping.{steps_keep_stacks as law}
use Rattle.px_pair.proofs.law.steps_keep_stacks.Goals as goal

pub returns : goal.returns
returns c = law
