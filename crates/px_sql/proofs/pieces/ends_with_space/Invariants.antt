use Rattle.std.proofs.Common.{◌≡◌, length, false}
use Rattle.px_sql.specs.Reading.{ends_with_space}
use Rattle.px_sql.proofs.pieces.ends_with_space.Given as goal

abbrev pub invariant-loop-rest : goal.invariant-loop-rest
invariant-loop-rest l = ends_with_space l.last l.rest ≡ ends_with_space false l.text

abbrev pub decreases-loop-rest : goal.decreases-loop-rest
decreases-loop-rest l = length l.rest
