use Rattle.px_mean.proofs.TypedTables.{tables_answer_typed}
use Rattle.px_mean.proofs.law.tables_answer_typed.Goals as goal

pub returns : goal.returns
returns t c = λ widths F f. tables_answer_typed _ widths F f
