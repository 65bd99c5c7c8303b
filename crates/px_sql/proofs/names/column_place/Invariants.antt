use Rattle.std.proofs.Common.{◌≡◌, ◌+◌, drop}
use Rattle.px_sql.specs.Reading.{column_place}
use Rattle.px_sql.proofs.names.column_place.Given as goal

abbrev pub invariant-loop-column : goal.invariant-loop-column
invariant-loop-column l =
    record {
      same : l.place + column_place l.name (drop l.column-index l.columns) ≡ column_place l.name l.columns;
      place : l.place ≡ l.column-index;
    }
