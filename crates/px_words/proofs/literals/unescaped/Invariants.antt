use Rattle.std.proofs.Common.{◌≡◌, ◌++◌, false, drop}
use Rattle.px_words.specs.Literals.{text_from}
use Rattle.px_words.proofs.literals.unescaped.Given as goal

abbrev pub invariant-loop-byte : goal.invariant-loop-byte
invariant-loop-byte l = l.text.items ++ text_from l.escaped (drop l.byte-index l.bytes) ≡ text_from false l.bytes
