use Rattle.px_sql.proofs.Kept.{schemas_keep}
use Rattle.px_sql.proofs.laws.schemas_keep_the_rule.Goals as goal

pub returns : goal.returns
returns c = schemas_keep
