use Rattle.std.proofs.Common.{◌≡◌, drop}
use Rattle.px_main.specs.Run.{with_rows, tables_of}
use Rattle.px_main.proofs.serial.load_rows.Given as goal

abbrev pub invariant-loop-row : goal.invariant-loop-row
invariant-loop-row l = with_rows l.tables (drop l.row-index l.rows) ≡ tables_of l.fn.schema l.fn.rows
