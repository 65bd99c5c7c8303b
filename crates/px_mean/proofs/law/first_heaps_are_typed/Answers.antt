use Rattle.px_mean.proofs.TypedCalls.{first_stand_typed}
use Rattle.px_mean.proofs.law.first_heaps_are_typed.Goals as goal

pub returns : goal.returns
returns t c = λ test P sessions world h. first_stand_typed _ _ P sessions world h
