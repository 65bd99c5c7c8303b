use Rattle.px_mean.proofs.TypedCalls.{serves_kept}
use Rattle.px_mean.proofs.law.all_heaps_stay_typed.Goals as goal

pub returns : goal.returns
returns t c = λ test ask P calls stand typed answers a h. serves_kept _ _ ask P answers typed calls stand a h
