use Rattle.std.proofs.Common.{arith, sym, ap, ◌∙◌}
use Rattle.px_rows.specs.Tables.{undone}
use Rattle.px_rows.proofs.Back.{undone-push, undone-nil}
use Rattle.px_rows.proofs.Does.{no_length}
use Rattle.px_rows.proofs.tables.Tables.undo.Goals as goal

pub loop-past-preserved : goal.loop-past-preserved
loop-past-preserved c =
    ap (undone c.pop.new.self.items) c.put_back.ensures
    ∙ sym (undone-push c.pop.new.self.items c.in-Some.past c.loop-past.self)
    ∙ ap (λ os. undone os c.loop-past.self) (sym c.in-Some.ensures.items)
    ∙ c.loop-past.invariant

pub returns-clause-undone : goal.returns-clause-undone
returns-clause-undone c =
    sym (undone-nil c.loop-past.self)
    ∙ ap (λ os. undone os c.loop-past.self) (sym (no_length c.loop-past.undo-inside.pasts.items (omega (arith, c.in_default.ensures.cases.0))))
    ∙ c.loop-past.invariant
