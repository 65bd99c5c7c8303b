use Rattle.std.proofs.Common.{sym, ◌∙◌}
use Rattle.px_lowering.proofs.StmtForms.{completes_if}
use Rattle.px_lowering.proofs.locals.+completes.Goals as goal

pub completes-returns-in-If : goal.completes-returns-in-If
completes-returns-in-If t c = c.either_completes.ensures ∙ sym (completes_if c.args.s.now _ _ _ _ c.in-If.is c.get.ensures)
