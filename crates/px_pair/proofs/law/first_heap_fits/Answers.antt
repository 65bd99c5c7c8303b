use Rattle.px_pair.proofs.FirstHeap.{first_heap_fits as law}
use Rattle.px_pair.proofs.law.first_heap_fits.Goals as goal

pub returns : goal.returns
returns c = law
