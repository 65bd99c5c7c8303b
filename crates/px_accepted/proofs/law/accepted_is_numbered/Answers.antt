use Rattle.px_soundness.proofs.Texts.{program_classes}
use Rattle.px_accepted.proofs.Numbered.{numbers_given_once}
use Rattle.px_accepted.proofs.law.accepted_is_numbered.Goals as goal

pub returns : goal.returns
returns c = λ bytes program schema a. let d = program_classes bytes program a.program_is in numbers_given_once d.0 program.classes d.1
