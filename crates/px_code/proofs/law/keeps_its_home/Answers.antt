use Rattle.px_code.proofs.Alone.{keeps_home}
use Rattle.px_code.proofs.law.keeps_its_home.Goals as goal

pub returns : goal.returns
returns c = keeps_home
