use Rattle.std.proofs.Common.{Ok, Err, IfOk, sym, subst, ◌∙◌}
use Rattle.px_effects.specs.Act.{Comes}
use Rattle.px_normal.specs.Words.{Does, operands}
use Rattle.px_acts.specs.Slots.{values_in}
use Rattle.px_acts.specs.Did.{Did}
use Rattle.px_acts.proofs.Landing.{acts_alone, invokes_is}
use Rattle.px_acts.proofs.calling.invokes_on_value.Goals as goal

pub returns-in-Ok : goal.returns-in-Ok
returns-in-Ok c firsts shared =
    let same = invokes_is c.args.of.now c.args.method (operands (values_in c.args.slots.now) c.args.args.now) (Ok c.in-Ok.object) (sym c.reference.ensures ∙ c.in-Ok.is) in
    subst (λ (x : Does). IfOk c.invokes_at.result (λ d. Did firsts x shared d shared)) (sym same) (c.invokes_at.ensures firsts shared)

pub returns-in-Err : goal.returns-in-Err
returns-in-Err c firsts shared =
    let same = invokes_is c.args.of.now c.args.method (operands (values_in c.args.slots.now) c.args.args.now) (Err c.in-Err.thrown) (sym c.reference.ensures ∙ c.in-Err.is) in
    subst (λ (x : Does). Did firsts x shared c.comes.result shared) (sym same) (acts_alone firsts (Comes (Err c.in-Err.thrown)) shared c.comes.result shared.heap (c.comes.ensures shared.heap))
