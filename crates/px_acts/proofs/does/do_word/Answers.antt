use Rattle.std.proofs.Common.{List, IfOk, refl, subst}
use Rattle.px_effects.specs.Operations.{operation}
use Rattle.px_normal.specs.declared.word.Operand.{Operand}
use Rattle.px_normal.specs.First.{fresh_of, statements_of}
use Rattle.px_normal.specs.Words.{Works, invokes_on, operand, operands}
use Rattle.px_acts.specs.Slots.{values_in}
use Rattle.px_acts.specs.Did.{Did, firsts_of}
use Rattle.px_acts.proofs.Landing.{by_word, by_act}
use Rattle.px_acts.proofs.does.do_word.Goals as goal

pub returns-in-Set-clause-did : goal.returns-in-Set-clause-did
returns-in-Set-clause-did c = by_act c.args.code.now (values_in c.args.slots.now) (record { heap = c.args.store.now.heap; prints = c.args.prints.now }) c.set.result c.args.word.now _ _ c.args.store.now.heap c.in-Set.is refl (c.set.ensures (fresh_of c.args.code.now) c.args.store.now.heap)

pub returns-in-Op-clause-did : goal.returns-in-Op-clause-did
returns-in-Op-clause-did c = by_act c.args.code.now (values_in c.args.slots.now) (record { heap = c.args.store.now.heap; prints = c.args.prints.now }) c.operator.result c.args.word.now _ _ c.args.store.now.heap c.in-Op.is refl (c.operator.ensures (fresh_of c.args.code.now) c.args.store.now.heap)

pub returns-in-Get-clause-did : goal.returns-in-Get-clause-did
returns-in-Get-clause-did c = by_act c.args.code.now (values_in c.args.slots.now) (record { heap = c.args.store.now.heap; prints = c.args.prints.now }) c.field.result c.args.word.now _ _ c.args.store.now.heap c.in-Get.is refl (c.field.ensures (fresh_of c.args.code.now))

pub returns-in-Put-clause-did : goal.returns-in-Put-clause-did
returns-in-Put-clause-did c = by_act c.args.code.now (values_in c.args.slots.now) (record { heap = c.args.store.now.heap; prints = c.args.prints.now }) c.put.result c.args.word.now _ _ c.put.new.store.heap c.in-Put.is refl (c.put.ensures.acts (fresh_of c.args.code.now))

pub returns-in-Load-clause-did : goal.returns-in-Load-clause-did
returns-in-Load-clause-did c = by_act c.args.code.now (values_in c.args.slots.now) (record { heap = c.args.store.now.heap; prints = c.args.prints.now }) c.element.result c.args.word.now _ _ c.args.store.now.heap c.in-Load.is refl (c.element.ensures (fresh_of c.args.code.now))

pub returns-in-Store-clause-did : goal.returns-in-Store-clause-did
returns-in-Store-clause-did c = by_act c.args.code.now (values_in c.args.slots.now) (record { heap = c.args.store.now.heap; prints = c.args.prints.now }) c.store_at.result c.args.word.now _ _ c.store_at.new.store.heap c.in-Store.is refl (c.store_at.ensures.acts (fresh_of c.args.code.now))

pub returns-in-Len-clause-did : goal.returns-in-Len-clause-did
returns-in-Len-clause-did c = by_act c.args.code.now (values_in c.args.slots.now) (record { heap = c.args.store.now.heap; prints = c.args.prints.now }) c.length.result c.args.word.now _ _ c.args.store.now.heap c.in-Len.is refl (c.length.ensures (fresh_of c.args.code.now))

pub returns-in-Array-clause-did : goal.returns-in-Array-clause-did
returns-in-Array-clause-did c = by_act c.args.code.now (values_in c.args.slots.now) (record { heap = c.args.store.now.heap; prints = c.args.prints.now }) c.array.result c.args.word.now _ _ c.array.new.store.heap c.in-Array.is refl (c.array.ensures.acts (fresh_of c.args.code.now))

pub returns-in-Next-clause-did : goal.returns-in-Next-clause-did
returns-in-Next-clause-did c = by_act c.args.code.now (values_in c.args.slots.now) (record { heap = c.args.store.now.heap; prints = c.args.prints.now }) c.next_row.result c.args.word.now _ _ c.next_row.new.store.heap c.in-Next.is refl (c.next_row.ensures.acts (fresh_of c.args.code.now))

pub returns-in-Long-clause-did : goal.returns-in-Long-clause-did
returns-in-Long-clause-did c = by_act c.args.code.now (values_in c.args.slots.now) (record { heap = c.args.store.now.heap; prints = c.args.prints.now }) c.long_column.result c.args.word.now _ _ c.args.store.now.heap c.in-Long.is refl (c.long_column.ensures (fresh_of c.args.code.now))

pub returns-in-Text-clause-did : goal.returns-in-Text-clause-did
returns-in-Text-clause-did c = by_act c.args.code.now (values_in c.args.slots.now) (record { heap = c.args.store.now.heap; prints = c.args.prints.now }) c.text_column.result c.args.word.now _ _ c.args.store.now.heap c.in-Text.is refl (c.text_column.ensures (fresh_of c.args.code.now))

pub returns-in-Call-clause-did : goal.returns-in-Call-clause-did
returns-in-Call-clause-did c = by_word c.args.code.now (values_in c.args.slots.now) (record { heap = c.args.store.now.heap; prints = c.args.prints.now }) c.invokes.result c.args.word.now _ (record { heap = c.args.store.now.heap; prints = c.args.prints.now }) c.in-Call.is
    (subst (λ (xs : List Operand). IfOk c.invokes.result (λ d. Did (firsts_of c.args.code.now) (invokes_on (operand (values_in c.args.slots.now) c.in-Call.of) c.in-Call.method (operands (values_in c.args.slots.now) xs)) (record { heap = c.args.store.now.heap; prints = c.args.prints.now }) d (record { heap = c.args.store.now.heap; prints = c.args.prints.now }))) c.as_slice.ensures (c.invokes.ensures (firsts_of c.args.code.now) (record { heap = c.args.store.now.heap; prints = c.args.prints.now })))

pub returns-in-Query-clause-did : goal.returns-in-Query-clause-did
returns-in-Query-clause-did c = by_word c.args.code.now (values_in c.args.slots.now) (record { heap = c.args.store.now.heap; prints = c.args.prints.now }) c.operates.result c.args.word.now _ (record { heap = c.args.store.now.heap; prints = c.args.prints.now }) c.in-Query.is
    (subst (λ (xs : List Operand). IfOk c.operates.result (λ d. Did (firsts_of c.args.code.now) (Works (operation c.in-Query.statement (statements_of c.args.code.now c.in-Query.statement) (operands (values_in c.args.slots.now) xs))) (record { heap = c.args.store.now.heap; prints = c.args.prints.now }) d (record { heap = c.args.store.now.heap; prints = c.args.prints.now }))) c.as_slice-in-Query.ensures (c.operates.ensures (firsts_of c.args.code.now) (record { heap = c.args.store.now.heap; prints = c.args.prints.now })))

pub returns-in-Update-clause-did : goal.returns-in-Update-clause-did
returns-in-Update-clause-did c = by_word c.args.code.now (values_in c.args.slots.now) (record { heap = c.args.store.now.heap; prints = c.args.prints.now }) c.operates-in-Update.result c.args.word.now _ (record { heap = c.args.store.now.heap; prints = c.args.prints.now }) c.in-Update.is
    (subst (λ (xs : List Operand). IfOk c.operates-in-Update.result (λ d. Did (firsts_of c.args.code.now) (Works (operation c.in-Update.statement (statements_of c.args.code.now c.in-Update.statement) (operands (values_in c.args.slots.now) xs))) (record { heap = c.args.store.now.heap; prints = c.args.prints.now }) d (record { heap = c.args.store.now.heap; prints = c.args.prints.now }))) c.as_slice-in-Update.ensures (c.operates-in-Update.ensures (firsts_of c.args.code.now) (record { heap = c.args.store.now.heap; prints = c.args.prints.now })))

pub returns-in-Print-clause-did : goal.returns-in-Print-clause-did
returns-in-Print-clause-did c = by_word c.args.code.now (values_in c.args.slots.now) (record { heap = c.args.store.now.heap; prints = c.args.prints.now }) c.print.result c.args.word.now _ (record { heap = c.args.store.now.heap; prints = c.print.new.prints }) c.in-Print.is (c.print.ensures.did (firsts_of c.args.code.now) c.args.store.now.heap)

pub returns-in-Return-clause-did : goal.returns-in-Return-clause-did
returns-in-Return-clause-did c = by_word c.args.code.now (values_in c.args.slots.now) (record { heap = c.args.store.now.heap; prints = c.args.prints.now }) c.returned.result c.args.word.now _ (record { heap = c.args.store.now.heap; prints = c.args.prints.now }) c.in-Return.is (c.returned.ensures c.args.code.now (record { heap = c.args.store.now.heap; prints = c.args.prints.now }))
