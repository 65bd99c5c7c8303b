use Rattle.px_points_stay.proofs.First.{first_heap_fits}
use Rattle.px_points_stay.proofs.law.first_heap_fits.Goals as goal

pub returns : goal.returns
returns c = first_heap_fits
