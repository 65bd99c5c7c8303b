use Rattle.std.proofs.Common.{List, length, ap, ◌∙◌}
use Rattle.px_value.specs.declared.object.Object.{Object}
use Rattle.px_acts.proofs.Blanks.{rows_done, rows_stopped}
use Rattle.px_acts.proofs.rows.rows_object.Goals as goal

pub returns-in_err-value-clause-acted : goal.returns-in_err-value-clause-acted
returns-in_err-value-clause-acted c fresh width =
    rows_stopped fresh c.args.number c.args.site width c.args.cells.now c.in_ok-all.all c.args.store.now.heap c.allocate.new.store.heap c.in_ok-all.ensures
    c.in_err-value.field-0.0 c.from_residual-in_err-value.result c.from_residual-in_err-value.ensures.1 c.in_err-value.ensures.acted

pub returns-clause-acted : goal.returns-clause-acted
returns-clause-acted c fresh width =
    rows_done fresh c.args.number c.args.site width c.args.cells.now c.in_ok-all.all c.args.store.now.heap c.allocate.new.store.heap c.in_ok-all.ensures
    c.len-object.result c.in_ok-value.value (c.len-object.ensures ∙ ap (λ (heap : List Object). length heap) c.heap.ensures) c.in_ok-value.ensures.acted
