use Rattle.px_soundness.proofs.Accepted.{accepted_used}
use Rattle.px_soundness.proofs.Texts.{program_classes}
use Rattle.px_soundness.proofs.law.accepted_is_used.Goals as goal

pub returns : goal.returns
returns c = λ bytes program schema a. let d = program_classes bytes program a.program_is in accepted_used schema program d.0 d.1 a.kept
