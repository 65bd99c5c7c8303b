use Rattle.std.proofs.Common.{◌≡◌, ◌++◌, length, false}
use Rattle.std.specs.Option.{option_map}
use Rattle.px_pyxil_reader.specs.Reading.{text_from}
use Rattle.px_pyxil_reader.proofs.texts.take_body.Given as goal

abbrev pub invariant-loop-rest : goal.invariant-loop-rest
invariant-loop-rest l = option_map (λ text. (l.text.items ++ text.0, text.1)) (text_from l.escaped l.rest) ≡ text_from false l.from

abbrev pub decreases-loop-rest : goal.decreases-loop-rest
decreases-loop-rest l = length l.rest
