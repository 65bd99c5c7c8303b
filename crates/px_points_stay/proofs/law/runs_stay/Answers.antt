use Rattle.px_points_stay.proofs.Stay.{run_stays}
use Rattle.px_points_stay.proofs.law.runs_stay.Goals as goal

pub returns : goal.returns
returns t c = λ code ask kept heap world m method args typed plainly well fits is entry plain. run_stays t.row.Q.Denot t.row.W.Denot code typed ask kept plainly heap world m method args well fits is entry plain
