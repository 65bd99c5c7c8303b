-- Two ways in which a world answers.
use Rattle.std.specs.Prelude.{List, [], ◌∷◌}
use Rattle.px_value.specs.declared.statement.TableOp.{TableOp}
use Rattle.px_value.specs.declared.answer.Answer.{Answer}
use Rattle.px_value.specs.Outcome.{Gives, Asks}
use Rattle.px_rows.specs.Tables.{Tables}
use Rattle.px_rows.specs.Means.{answer_to, after}
use Rattle.px_mean.specs.Operations.{Ask}

-- the tables answer, and change
abbrev pub by_tables : {Q : Type 0} → Ask Q Tables
by_tables o = λ T. Gives (answer_to o T) (after o T)

-- The answers are written down in a list. Where it ends, the operation is left as an open question.
abbrev pub by_list : Ask TableOp (List Answer)
by_list o [] = Asks o []
by_list o (answer ∷ answers) = Gives answer answers
