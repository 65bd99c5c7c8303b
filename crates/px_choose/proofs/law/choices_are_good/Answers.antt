use Rattle.px_choose.proofs.Bounds.{choice_good}
use Rattle.px_choose.proofs.law.choices_are_good.Goals as goal

pub returns : goal.returns
returns c = choice_good
