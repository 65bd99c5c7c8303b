use Rattle.px_mean.proofs.OnTables.{lists_as_tables}
use Rattle.px_mean.proofs.law.lists_as_tables.Goals as goal

pub returns : goal.returns
returns t c = lists_as_tables _
