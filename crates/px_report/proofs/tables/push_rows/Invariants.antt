use Rattle.std.proofs.Common.{◌≡◌, ◌++◌, drop, map}
use Rattle.std.specs.List.{flat_map}
use Rattle.px_report.specs.Tables.{row_line}
use Rattle.px_report.proofs.tables.push_rows.Given as goal

abbrev pub invariant-loop-row : goal.invariant-loop-row
invariant-loop-row l =
    l.text.items ++ flat_map row_line (map (λ row. row.now) (drop l.row-index l.rows)) ≡ l.fn.text.items ++ flat_map row_line (map (λ row. row.now) l.rows)
