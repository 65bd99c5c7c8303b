use Rattle.std.proofs.Common.{◌≡◌, ◌+◌, ◌++◌, drop}
use Rattle.px_report.specs.Lines.{numbered}
use Rattle.px_report.specs.Tables.{table_text}
use Rattle.px_report.proofs.tables.push_tables.Given as goal

abbrev pub invariant-loop-number : goal.invariant-loop-number
invariant-loop-number l =
    l.text.items ++ numbered (table_text l.tables) l.number (drop l.number l.schema) ≡ l.fn.text.items ++ numbered (table_text l.tables) 0 l.schema
