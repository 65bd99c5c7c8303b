use Rattle.std.proofs.Common.{◌≡◌, ◌++◌, drop, map}
use Rattle.px_types.specs.Database.{column_type}
use Rattle.px_types.proofs.database.column_types.Given as goal

abbrev pub invariant-loop-column : goal.invariant-loop-column
invariant-loop-column l = record {
  types : l.types ++ map column_type (drop l.column-index l.fn.columns) ≡ map column_type l.fn.columns;
}
