use Rattle.px_code.proofs.Alone.{alone}
use Rattle.px_code.proofs.law.points_to_main_alone.Goals as goal

pub returns : goal.returns
returns c = alone
