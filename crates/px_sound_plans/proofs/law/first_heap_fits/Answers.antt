use Rattle.px_sound_plans.proofs.Entries.{first_heap_fits}
use Rattle.px_sound_plans.proofs.law.first_heap_fits.Goals as goal

pub returns : goal.returns
returns c = first_heap_fits
