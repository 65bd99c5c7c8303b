use Rattle.std.proofs.Common.{arith}
use Rattle.std.proofs.lemmas.Grind.{common_steps}
use Rattle.px_report.proofs.Joined.{object_line_is}
use Rattle.px_report.proofs.heaps.push_object.Goals as goal

pub returns : goal.returns
returns c =
    let line = object_line_is c.args.classes.now c.args.place c.args.object.now in
    grind (arith, common_steps, line)
