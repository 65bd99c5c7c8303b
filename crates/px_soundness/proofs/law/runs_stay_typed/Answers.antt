use Rattle.px_soundness.proofs.Accepted.{accepted_runs}
use Rattle.px_soundness.proofs.Texts.{program_classes}
use Rattle.px_soundness.proofs.law.runs_stay_typed.Goals as goal

pub returns : goal.returns
returns c = λ bytes program schema sessions tables calls a k t. let d = program_classes bytes program a.program_is in accepted_runs schema program d.0 sessions tables calls d.1 a.kept k t
