use Rattle.std.proofs.Common.{◌≡◌, ◌++◌, drop}
use Rattle.px_types.proofs.schema.copy_schema.Given as goal

abbrev pub invariant-loop-table : goal.invariant-loop-table
invariant-loop-table l = record {
  tables : l.tables ++ drop l.table-index l.fn.schema.tables ≡ l.fn.schema.tables;
}
