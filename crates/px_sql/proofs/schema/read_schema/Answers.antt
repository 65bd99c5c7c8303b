use Rattle.px_sql.proofs.Kept.{kept_if_read}
use Rattle.px_sql.proofs.schema.read_schema.Goals as goal

pub returns-clause-kept : goal.returns-clause-kept
returns-clause-kept c = kept_if_read c.read_tables.result c.args.tables.now c.read_tables.ensures
