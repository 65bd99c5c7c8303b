use Rattle.px_code.proofs.OneCut.{one_cut}
use Rattle.px_code.proofs.law.cut_is_one.Goals as goal

pub returns : goal.returns
returns c = one_cut
