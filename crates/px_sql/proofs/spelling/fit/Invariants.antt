use Rattle.std.proofs.Common.{◌≡◌, length}
use Rattle.px_sql.specs.Spelling.{fit}
use Rattle.px_sql.proofs.spelling.fit.Given as goal

abbrev pub invariant-loop-words_left : goal.invariant-loop-words_left
invariant-loop-words_left l = fit l.words_left l.pieces_left ≡ fit l.words l.pieces

abbrev pub decreases-loop-words_left : goal.decreases-loop-words_left
decreases-loop-words_left l = length l.words_left
