use Rattle.px_sql.proofs.Meanings.{texts_are_read}
use Rattle.px_sql.proofs.laws.texts_are_read.Goals as goal

pub returns : goal.returns
returns c = texts_are_read
