use Rattle.std.proofs.Common.{◌≡◌, ◌++◌, length}
use Rattle.px_sql.specs.Words.{marks}
use Rattle.px_sql.proofs.words.push_marks.Given as goal

abbrev pub invariant-loop-rest : goal.invariant-loop-rest
invariant-loop-rest l = l.words ++ marks l.rest ≡ l.fn.words ++ marks l.columns

abbrev pub decreases-loop-rest : goal.decreases-loop-rest
decreases-loop-rest l = length l.rest
