use Rattle.std.proofs.Common.{◌≡◌, ◌++◌, length, false}
use Rattle.std.specs.Option.{option_map}
use Rattle.px_job.specs.Texts.{text_from}
use Rattle.px_job.proofs.texts.read_body.Given as goal

abbrev pub invariant-loop-rest : goal.invariant-loop-rest
invariant-loop-rest l = option_map (λ text. l.text.items ++ text) (text_from l.escaped l.rest) ≡ text_from false l.body

abbrev pub decreases-loop-rest : goal.decreases-loop-rest
decreases-loop-rest l = length l.rest
