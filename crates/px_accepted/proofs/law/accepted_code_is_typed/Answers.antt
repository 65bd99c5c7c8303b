use Rattle.px_types.specs.Checked.{checked_of}
use Rattle.px_soundness.proofs.Accepted.{accepted_typed}
use Rattle.px_soundness.proofs.Texts.{program_classes}
use Rattle.px_typed_code.proofs.Programs.{lowered_is_typed}
use Rattle.px_accepted.proofs.UsedWell.{accepted_is_used_well}
use Rattle.px_accepted.proofs.law.accepted_code_is_typed.Goals as goal

pub returns : goal.returns
returns c = λ bytes program schema a.
    let d = program_classes bytes program a.program_is in
    lowered_is_typed (checked_of program schema) (accepted_typed schema program d.0 d.1 a.kept) (accepted_is_used_well schema program d.0 d.1 a.kept)
