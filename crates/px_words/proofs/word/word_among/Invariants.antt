use Rattle.std.proofs.Common.{◌≡◌, map, drop}
use Rattle.px_words.specs.Lexemes.{word_among}
use Rattle.px_words.proofs.word.word_among.Given as goal

-- the word is among those that are left
abbrev pub invariant-loop-bytes : goal.invariant-loop-bytes
invariant-loop-bytes l =
    word_among (map (λ p. (p.0.now, p.1)) (drop l.bytes-index l.words)) l.spelling l.other
    ≡ word_among (map (λ p. (p.0.now, p.1)) l.words) l.spelling l.other
