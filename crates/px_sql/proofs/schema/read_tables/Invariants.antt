use Rattle.std.proofs.Common.{◌≡◌, ◌≤◌, ◌++◌, map, drop, length}
use Rattle.px_sql.specs.Tables.{table_of, breach_from, first_breach}
use Rattle.px_sql.proofs.schema.read_tables.Given as goal

abbrev pub invariant-loop-declared : goal.invariant-loop-declared
invariant-loop-declared l =
    record {
      read : l.read ++ map table_of (drop l.declared-index l.tables) ≡ map table_of l.tables;
      breach : breach_from l.read (map table_of (drop l.declared-index l.tables)) ≡ first_breach (map table_of l.tables);
      few : length l.read ≤ 100;
    }
