use Rattle.std.proofs.Common.{Result, Err, ap}
use Rattle.px_facts.specs.declared.checked.Checked.{Checked}
use Rattle.px_types.specs.declared.error.CheckError.{CheckError}
use Rattle.px_main.proofs.Faults.{checked_found, fault_found}
use Rattle.px_main.proofs.whole.check_over.Goals as goal

pub returns-in-Ok : goal.returns-in-Ok
returns-in-Ok c = checked_found c.args.program c.args.schema c.in-Ok.checked c.in-Ok.ensures.checked c.in-Ok.ensures.kept

pub returns-in-Err-TypeFault : goal.returns-in-Err-TypeFault
returns-in-Err-TypeFault c =
    let err : CheckError → Result Checked CheckError = λ e. Err e in
    fault_found c.args.program c.args.schema c.in-Err-TypeFault.line c.in-Err-TypeFault.code (c.in-Err-TypeFault.ensures.fault c.in-Err-TypeFault.line c.in-Err-TypeFault.code (ap err c.in-Err-TypeFault.field-0-is))
