use Rattle.px_counts.proofs.Unmarked.{exec_unmarked}
use Rattle.px_counts.proofs.law.marks_change_nothing.Goals as goal

pub returns : goal.returns
returns t c = λ ask P heap world method args. exec_unmarked _ _ ask P heap world method args
