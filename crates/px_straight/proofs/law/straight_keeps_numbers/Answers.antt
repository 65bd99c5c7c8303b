use Rattle.px_straight.proofs.Whole.{keeps_numbers}
use Rattle.px_straight.proofs.law.straight_keeps_numbers.Goals as goal

pub returns : goal.returns
returns c = keeps_numbers
