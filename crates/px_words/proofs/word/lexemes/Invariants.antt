use Rattle.std.proofs.Common.{◌≡◌, take}
use Rattle.px_words.specs.Lexemes.{lexemes_of}
use Rattle.px_words.proofs.word.lexemes.Given as goal

abbrev pub invariant-loop-number : goal.invariant-loop-number
invariant-loop-number l = l.lexemes.items ≡ lexemes_of l.bytes (take l.number l.tokens)
