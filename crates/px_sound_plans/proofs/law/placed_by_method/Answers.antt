use Rattle.px_sound_plans.proofs.PlacedWell.{placed_by_method}
use Rattle.px_sound_plans.proofs.law.placed_by_method.Goals as goal

pub returns : goal.returns
returns c = placed_by_method
