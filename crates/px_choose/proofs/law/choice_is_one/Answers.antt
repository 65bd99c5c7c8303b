use Rattle.px_choose.proofs.Bounds.{choice_same}
use Rattle.px_choose.proofs.law.choice_is_one.Goals as goal

pub returns : goal.returns
returns c = choice_same
