use Rattle.px_pyxil_reader.proofs.LinesRead.{as_line, no_line}
use Rattle.px_pyxil_reader.proofs.lines.read_line.Goals as goal

pub returns-in-Ok : goal.returns-in-Ok
returns-in-Ok c = as_line c.args.bytes.now c.in-Ok.line c.in-Ok.ensures

pub returns-in-Err-NoLine : goal.returns-in-Err-NoLine
returns-in-Err-NoLine c =
    let none = rw c.in-Err-NoLine.field-0-is at c.in-Err-NoLine.ensures in
    no_line c.args.bytes.now none
