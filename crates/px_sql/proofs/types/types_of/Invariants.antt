use Rattle.std.proofs.Common.{◌≡◌, ◌++◌, map, drop}
use Rattle.px_sql.proofs.types.types_of.Given as goal

abbrev pub invariant-loop-column : goal.invariant-loop-column
invariant-loop-column l = l.types ++ map (λ c. c.ty) (drop l.column-index l.columns) ≡ map (λ c. c.ty) l.columns
