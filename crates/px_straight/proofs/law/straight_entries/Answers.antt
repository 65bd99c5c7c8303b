use Rattle.px_straight.proofs.Whole.{entries}
use Rattle.px_straight.proofs.law.straight_entries.Goals as goal

pub returns : goal.returns
returns c = entries
