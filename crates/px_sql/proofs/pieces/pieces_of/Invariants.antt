use Rattle.std.proofs.Common.{◌≡◌, ◌++◌, length}
use Rattle.px_sql.specs.Reading.{pieces_of}
use Rattle.px_sql.proofs.pieces.pieces_of.Given as goal

abbrev pub invariant-loop-rest : goal.invariant-loop-rest
invariant-loop-rest l = l.pieces ++ pieces_of l.rest ≡ pieces_of l.text

abbrev pub decreases-loop-rest : goal.decreases-loop-rest
decreases-loop-rest l = length l.rest
