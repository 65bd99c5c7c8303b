use Rattle.std.proofs.Common.{Option, IfOk, sym, subst}
use Rattle.px_value.specs.declared.value.Value.TheVariants.{Null}
use Rattle.px_effects.specs.Cells.{comes}
use Rattle.px_normal.specs.declared.word.Operand.{Operand}
use Rattle.px_normal.specs.declared.word.Word.TheVariants.{Return}
use Rattle.px_normal.specs.Words.{does_of}
use Rattle.px_normal.specs.Words as words
use Rattle.px_acts.specs.Slots.{values_in}
use Rattle.px_acts.specs.Did.{Did, firsts_of}
use Rattle.px_normal.specs.First.{fresh_of}
use Rattle.px_acts.proofs.Landing.{acts_alone, acts_if}
use Rattle.px_acts.proofs.does.returned.Goals as goal

pub returns-in-None : goal.returns-in-None
returns-in-None c code shared =
    subst (λ (a : Option Operand). Did (firsts_of code) (does_of code (Return a) (values_in c.args.slots.now)) shared c.comes.result shared) (sym c.in-None.is)
    (acts_alone (firsts_of code) (comes Null) shared c.comes.result shared.heap (c.comes.ensures shared.heap))

pub returns-in-Some : goal.returns-in-Some
returns-in-Some c code shared =
    subst (λ (a : Option Operand). IfOk c.set.result (λ d. Did (firsts_of code) (does_of code (Return a) (values_in c.args.slots.now)) shared d shared)) (sym c.in-Some.is)
    (acts_if (firsts_of code) (comes (words.operand (values_in c.args.slots.now) c.in-Some.value)) shared c.set.result shared.heap (c.set.ensures (fresh_of code) shared.heap))
