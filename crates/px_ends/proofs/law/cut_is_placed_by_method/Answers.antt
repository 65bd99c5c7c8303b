use Rattle.px_ends.proofs.CutHas.{cut_is_placed_by_method as law}
use Rattle.px_ends.proofs.law.cut_is_placed_by_method.Goals as goal

pub returns : goal.returns
returns c = law
