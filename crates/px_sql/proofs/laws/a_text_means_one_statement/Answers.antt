use Rattle.px_sql.proofs.Meanings.{one_statement}
use Rattle.px_sql.proofs.laws.a_text_means_one_statement.Goals as goal

pub returns : goal.returns
returns c = one_statement
