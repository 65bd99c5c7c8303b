use Rattle.px_two_ends.proofs.Programs.{compiled_is_split}
use Rattle.px_two_ends.proofs.law.compiled_is_split.Goals as goal

pub returns : goal.returns
returns c = compiled_is_split
