use Rattle.px_mean.proofs.OnTables.{tables_as_lists}
use Rattle.px_mean.proofs.law.tables_as_lists.Goals as goal

pub returns : goal.returns
returns t c = tables_as_lists _
