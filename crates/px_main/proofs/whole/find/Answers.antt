use Rattle.std.proofs.Common.{ℕ, Result, Err, ap}
use Rattle.px_tree.specs.declared.Program.{Program}
use Rattle.px_parse.specs.declared.error.ParseError.{ParseError}
use Rattle.px_main.specs.declared.fault.ProgramCode.TheVariants.{Syntax}
use Rattle.px_main.specs.Whole.{fault_at, ungrammatical}
use Rattle.px_main.proofs.Found.{found_by}
use Rattle.px_main.proofs.whole.find.Goals as goal

pub returns-in-Err-Syntax : goal.returns-in-Err-Syntax
returns-in-Err-Syntax c =
    let err : ParseError → Result Program ParseError = λ e. Err e in
    ungrammatical c.in-Err-Syntax.line (c.in-Err-Syntax.ensures.refused c.in-Err-Syntax.line (ap err c.in-Err-Syntax.field-0-is)) (ap (λ (n : ℕ). Err (fault_at n Syntax)) c.in-Err-Syntax.line-is)

pub returns-in-Ok : goal.returns-in-Ok
returns-in-Ok c = found_by _ _ c.in-Ok.ensures.found _ c.check_program.ensures
