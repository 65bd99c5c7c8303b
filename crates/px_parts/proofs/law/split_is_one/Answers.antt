use Rattle.px_parts.proofs.Once.{one_split}
use Rattle.px_parts.proofs.law.split_is_one.Goals as goal

pub returns : goal.returns
returns c = one_split
