use Rattle.std.proofs.Common.{arith}
use Rattle.std.proofs.lemmas.Grind.{common_steps}
use Rattle.px_report.proofs.Joined.{row_line_is}
use Rattle.px_report.proofs.tables.push_row.Goals as goal

pub returns : goal.returns
returns c =
    let line = row_line_is c.args.row.now in
    grind (arith, common_steps, line)
