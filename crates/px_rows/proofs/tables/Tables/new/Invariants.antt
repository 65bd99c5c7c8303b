use Rattle.std.proofs.Common.{◌≡◌, ◌++◌, drop}
use Rattle.px_rows.specs.Tables.{empty_tables}
use Rattle.px_rows.proofs.tables.Tables.new.Given as goal

abbrev pub invariant-loop : goal.invariant-loop
invariant-loop l = l.tables.items ++ empty_tables (drop l.index l.items) ≡ empty_tables l.items
