use Rattle.std.proofs.Common.{ap}
use Rattle.px_rows.specs.Tables.{Tables}
use Rattle.px_plain.specs.View.{Before, old_heap}
use Rattle.px_plain.proofs.Undoes.{undone-after}
use Rattle.px_plain.proofs.machine.Machine.ask.Goals as goal

pub returns-clause-kept : goal.returns-clause-kept
returns-clause-kept c =
    ap (λ (T : Tables). let b : Before = record { heap = old_heap c.args.self.now.store; tables = T } in b)
    (undone-after c.args.operation.now _ _ _ _ c.in_ok-apply.ensures.ok c.in_ok-apply.ensures.undo)
