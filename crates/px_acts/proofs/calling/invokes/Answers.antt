use Rattle.std.proofs.Common.{IfOk, subst}
use Rattle.px_value.specs.declared.value.Value.{Value}
use Rattle.px_normal.specs.Words.{invokes_on, operands}
use Rattle.px_acts.specs.Slots.{values_in}
use Rattle.px_acts.specs.Did.{Did}
use Rattle.px_acts.proofs.calling.invokes.Goals as goal

pub returns : goal.returns
returns c firsts shared =
    subst (λ (v : Value). IfOk c.invokes_on_value.result (λ d. Did firsts (invokes_on v c.args.method (operands (values_in c.args.slots.now) c.args.args.now)) shared d shared)) c.in_ok-of.ensures (c.invokes_on_value.ensures firsts shared)
