use Rattle.std.proofs.Common.{◌≡◌, ◌++◌, map, drop}
use Rattle.px_sql.specs.Tables.{column_of}
use Rattle.px_sql.proofs.schema.read_columns.Given as goal

abbrev pub invariant-loop-column : goal.invariant-loop-column
invariant-loop-column l = l.read ++ map column_of (drop l.column-index l.columns) ≡ map column_of l.columns
