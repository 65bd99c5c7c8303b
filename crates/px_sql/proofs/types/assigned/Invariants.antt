use Rattle.std.proofs.Common.{◌≡◌, ◌++◌, map, drop}
use Rattle.px_sql.specs.Parameters.{type_at}
use Rattle.px_sql.proofs.types.assigned.Given as goal

abbrev pub invariant-loop-place : goal.invariant-loop-place
invariant-loop-place l = l.types ++ map (type_at l.columns) (drop l.place-index l.places) ≡ map (type_at l.columns) l.places
