use Rattle.px_faithful.proofs.Whole.{legal_and_own_is_serial as law}
use Rattle.px_faithful.proofs.law.legal_and_own_is_serial.Goals as goal

pub returns : goal.returns
returns c = law
