use Rattle.px_code.proofs.Staying.{stay}
use Rattle.px_code.proofs.law.steps_stay.Goals as goal

pub returns : goal.returns
returns c = stay
