use Rattle.std.proofs.Common.{◌≡◌, ◌+◌, drop}
use Rattle.px_sql.specs.Reading.{table_place}
use Rattle.px_sql.proofs.names.table_place.Given as goal

abbrev pub invariant-loop-table : goal.invariant-loop-table
invariant-loop-table l =
    record {
      same : l.place + table_place l.name (drop l.table-index l.tables) ≡ table_place l.name l.tables;
      place : l.place ≡ l.table-index;
    }
