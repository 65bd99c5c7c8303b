use Rattle.std.proofs.Common.{Option, subst}
use Rattle.px_value.specs.declared.value.Value.TheVariants.{Null}
use Rattle.px_value.specs.declared.statement.Statement.{Statement}
use Rattle.px_effects.specs.Cells.{comes}
use Rattle.px_effects.specs.Operations.{operation}
use Rattle.px_normal.specs.Words.{Works, operands}
use Rattle.px_acts.specs.Slots.{values_in}
use Rattle.px_acts.specs.Did.{Did}
use Rattle.px_acts.proofs.Landing.{acts_alone}
use Rattle.px_acts.proofs.asking.operates.Goals as goal

pub returns-in-None : goal.returns-in-None
returns-in-None c firsts shared =
    subst (λ (s : Option Statement). Did firsts (Works (operation c.args.number s (operands (values_in c.args.slots.now) c.args.params.now))) shared c.comes.result shared) c.in-None.ensures
    (acts_alone firsts (comes Null) shared c.comes.result shared.heap (c.comes.ensures shared.heap))
