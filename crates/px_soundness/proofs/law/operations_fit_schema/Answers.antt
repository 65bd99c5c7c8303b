use Rattle.px_soundness.proofs.Accepted.{accepted_fits}
use Rattle.px_soundness.proofs.Texts.{program_classes}
use Rattle.px_soundness.proofs.law.operations_fit_schema.Goals as goal

pub returns : goal.returns
returns c = λ bytes program schema a. let d = program_classes bytes program a.program_is in accepted_fits schema program d.0 d.1
