use Rattle.std.proofs.Common.{◌≡◌, length}
use Rattle.px_sql.specs.Tables.{differ}
use Rattle.px_sql.proofs.schema.differ.Given as goal

abbrev pub invariant-loop-rest : goal.invariant-loop-rest
invariant-loop-rest l = differ l.rest ≡ differ l.columns

abbrev pub decreases-loop-rest : goal.decreases-loop-rest
decreases-loop-rest l = length l.rest
