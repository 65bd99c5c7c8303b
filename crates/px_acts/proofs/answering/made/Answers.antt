use Rattle.std.proofs.Common.{Result, subst}
use Rattle.px_acts.specs.declared.rows.Made.{Made}
use Rattle.px_acts.specs.declared.stop.Stop.{Stop}
use Rattle.px_acts.specs.Ends.{Makes}
use Rattle.px_acts.proofs.answering.made.Goals as goal

pub returns-in-Ok-clause-acts : goal.returns-in-Ok-clause-acts
returns-in-Ok-clause-acts c a heap h = c.answered_of.ensures a heap (subst (λ (r : Result Made Stop). Makes a r heap) c.in-Ok.is h)
