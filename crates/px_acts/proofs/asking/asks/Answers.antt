use Rattle.std.proofs.Common.{List, Result, Err, sym, subst}
use Rattle.px_value.specs.declared.value.Value.{Value}
use Rattle.px_value.specs.declared.thrown.Thrown.{Thrown}
use Rattle.px_effects.specs.Act.{Comes}
use Rattle.px_effects.specs.Operations.{operates_on}
use Rattle.px_normal.specs.Words.{Works}
use Rattle.px_acts.specs.Did.{Did}
use Rattle.px_acts.proofs.Landing.{acts_alone}
use Rattle.px_acts.proofs.asking.asks.Goals as goal

pub returns-in-Err : goal.returns-in-Err
returns-in-Err c firsts shared =
    subst (λ (params : Result (List Value) Thrown). Did firsts (Works (operates_on c.args.number c.args.statement.now params)) shared c.comes.result shared) (sym c.in-Err.is)
    (acts_alone firsts (Comes (Err c.in-Err.thrown)) shared c.comes.result shared.heap (c.comes.ensures shared.heap))
