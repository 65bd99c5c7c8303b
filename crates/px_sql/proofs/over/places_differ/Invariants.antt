use Rattle.std.proofs.Common.{◌≡◌, length}
use Rattle.px_sql.specs.Words.{places_differ}
use Rattle.px_sql.proofs.over.places_differ.Given as goal

abbrev pub invariant-loop-rest : goal.invariant-loop-rest
invariant-loop-rest l = places_differ l.rest ≡ places_differ l.places

abbrev pub decreases-loop-rest : goal.decreases-loop-rest
decreases-loop-rest l = length l.rest
