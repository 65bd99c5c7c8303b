use Rattle.px_sql.proofs.Spelled.{all_spelled}
use Rattle.px_sql.proofs.laws.statements_are_spelled.Goals as goal

pub returns : goal.returns
returns c = all_spelled
