use Rattle.px_types.specs.Checked.{checked_of}
use Rattle.px_soundness.proofs.Accepted.{accepted_typed}
use Rattle.px_soundness.proofs.Texts.{program_classes}
use Rattle.px_counted.proofs.Whole.{counts_are_runs}
use Rattle.px_accepted.proofs.Known.{accepted_known}
use Rattle.px_accepted.proofs.Numbered.{numbers_given_once}
use Rattle.px_accepted.proofs.law.accepted_counts_are_runs.Goals as goal

pub returns : goal.returns
returns t c = λ bytes program schema a.
    let d = program_classes bytes program a.program_is in
    counts_are_runs _ _ (checked_of program schema) (accepted_typed schema program d.0 d.1 a.kept) (accepted_known schema program a.kept) (numbers_given_once d.0 program.classes d.1)
