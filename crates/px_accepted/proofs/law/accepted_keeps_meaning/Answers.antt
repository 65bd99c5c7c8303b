use Rattle.px_types.specs.Checked.{checked_of}
use Rattle.px_soundness.proofs.Accepted.{accepted_typed}
use Rattle.px_soundness.proofs.Texts.{program_classes}
use Rattle.px_accepted.proofs.Known.{accepted_known}
use Rattle.px_preservation.proofs.Whole.{keeps_meaning}
use Rattle.px_accepted.proofs.law.accepted_keeps_meaning.Goals as goal

pub returns : goal.returns
returns t c = λ bytes program schema a.
    let d = program_classes bytes program a.program_is in
    keeps_meaning _ _ (checked_of program schema) (accepted_typed schema program d.0 d.1 a.kept) (accepted_known schema program a.kept)
