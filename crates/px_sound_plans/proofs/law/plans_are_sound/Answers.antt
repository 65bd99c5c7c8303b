use Rattle.px_sound_plans.proofs.Sound.{plans_are_sound}
use Rattle.px_sound_plans.proofs.law.plans_are_sound.Goals as goal

pub returns : goal.returns
returns c = plans_are_sound
