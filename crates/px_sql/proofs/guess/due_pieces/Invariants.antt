use Rattle.std.proofs.Common.{◌≡◌, ◌++◌, length, true}
use Rattle.px_sql.specs.Reading.{due_pieces}
use Rattle.px_sql.proofs.guess.due_pieces.Given as goal

abbrev pub invariant-loop-rest : goal.invariant-loop-rest
invariant-loop-rest l = l.found ++ due_pieces l.due l.rest ≡ due_pieces true l.pieces

abbrev pub decreases-loop-rest : goal.decreases-loop-rest
decreases-loop-rest l = length l.rest
