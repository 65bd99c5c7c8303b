use Rattle.std.proofs.Common.{ap, ◌∙◌}
use Rattle.std.specs.FinMap.{from_sorted}
use Rattle.px_rows.proofs.Seen.{none_seen}
use Rattle.px_rows.proofs.rows.Rows.new.Goals as goal

pub returns : goal.returns
returns c = ap from_sorted c.new.ensures ∙ none_seen
