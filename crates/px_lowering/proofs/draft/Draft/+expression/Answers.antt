use Rattle.std.proofs.Common.{ap}
use Rattle.px_lowering.specs.Expressions.{Low}
use Rattle.px_lowering.proofs.Forms.{low_group, low_field, low_index, low_call, low_new_array, low_prefix, low_binary}
use Rattle.px_lowering.proofs.Handed.{handed, handed_out}
use Rattle.px_lowering.proofs.draft.Draft.+expression.Goals as goal

pub value-returns-in-Group-clause-value : goal.value-returns-in-Group-clause-value
value-returns-in-Group-clause-value t c = handed _ _ _ (ap (λ (l : Low). (l.part.lower c.args.self.now).value) (low_group c.args.checked.now c.args.e.now _ _ c.in-Group.is c.get.ensures)) c.value.ensures.value

pub value-returns-in-Group-clause-out : goal.value-returns-in-Group-clause-out
value-returns-in-Group-clause-out t c = handed_out _ _ _ _ (ap (λ (l : Low). (l.part.lower c.args.self.now).out) (low_group c.args.checked.now c.args.e.now _ _ c.in-Group.is c.get.ensures)) c.value.ensures.out

pub value-returns-in-Field-clause-value : goal.value-returns-in-Field-clause-value
value-returns-in-Field-clause-value t c = handed _ _ _ (ap (λ (l : Low). (l.part.lower c.args.self.now).value) (low_field c.args.checked.now c.args.e.now _ _ _ c.in-Field.is c.get-in-Field.ensures)) c.member.ensures.value

pub value-returns-in-Field-clause-out : goal.value-returns-in-Field-clause-out
value-returns-in-Field-clause-out t c = handed_out _ _ _ _ (ap (λ (l : Low). (l.part.lower c.args.self.now).out) (low_field c.args.checked.now c.args.e.now _ _ _ c.in-Field.is c.get-in-Field.ensures)) c.member.ensures.out

pub value-returns-in-Index-clause-value : goal.value-returns-in-Index-clause-value
value-returns-in-Index-clause-value t c = handed _ _ _ (ap (λ (l : Low). (l.part.lower c.args.self.now).value) (low_index c.args.checked.now c.args.e.now _ _ _ _ c.in-Index.is c.get-in-Index.ensures c.get-in-Index-2.ensures)) c.element.ensures.value

pub value-returns-in-Index-clause-out : goal.value-returns-in-Index-clause-out
value-returns-in-Index-clause-out t c = handed_out _ _ _ _ (ap (λ (l : Low). (l.part.lower c.args.self.now).out) (low_index c.args.checked.now c.args.e.now _ _ _ _ c.in-Index.is c.get-in-Index.ensures c.get-in-Index-2.ensures)) c.element.ensures.out

pub value-returns-in-Call-clause-value : goal.value-returns-in-Call-clause-value
value-returns-in-Call-clause-value t c = handed _ _ _ (ap (λ (l : Low). (l.part.lower c.args.self.now).value) (low_call c.args.checked.now c.args.e.now _ _ _ c.in-Call.is)) c.call.ensures.value

pub value-returns-in-Call-clause-out : goal.value-returns-in-Call-clause-out
value-returns-in-Call-clause-out t c = handed_out _ _ _ _ (ap (λ (l : Low). (l.part.lower c.args.self.now).out) (low_call c.args.checked.now c.args.e.now _ _ _ c.in-Call.is)) c.call.ensures.out

pub value-returns-in-NewArray-clause-value : goal.value-returns-in-NewArray-clause-value
value-returns-in-NewArray-clause-value t c = handed _ _ _ (ap (λ (l : Low). (l.part.lower c.args.self.now).value) (low_new_array c.args.checked.now c.args.e.now _ _ _ c.in-NewArray.is c.get-in-NewArray.ensures)) c.array.ensures.value

pub value-returns-in-NewArray-clause-out : goal.value-returns-in-NewArray-clause-out
value-returns-in-NewArray-clause-out t c = handed_out _ _ _ _ (ap (λ (l : Low). (l.part.lower c.args.self.now).out) (low_new_array c.args.checked.now c.args.e.now _ _ _ c.in-NewArray.is c.get-in-NewArray.ensures)) c.array.ensures.out

pub value-returns-in-Prefix-clause-value : goal.value-returns-in-Prefix-clause-value
value-returns-in-Prefix-clause-value t c = handed _ _ _ (ap (λ (l : Low). (l.part.lower c.args.self.now).value) (low_prefix c.args.checked.now c.args.e.now _ _ _ c.in-Prefix.is c.get-in-Prefix.ensures)) c.prefix.ensures.value

pub value-returns-in-Prefix-clause-out : goal.value-returns-in-Prefix-clause-out
value-returns-in-Prefix-clause-out t c = handed_out _ _ _ _ (ap (λ (l : Low). (l.part.lower c.args.self.now).out) (low_prefix c.args.checked.now c.args.e.now _ _ _ c.in-Prefix.is c.get-in-Prefix.ensures)) c.prefix.ensures.out

pub value-returns-in-Binary-clause-value : goal.value-returns-in-Binary-clause-value
value-returns-in-Binary-clause-value t c = handed _ _ _ (ap (λ (l : Low). (l.part.lower c.args.self.now).value) (low_binary c.args.checked.now c.args.e.now _ _ _ _ _ _ c.in-Binary.is c.get-in-Binary.ensures c.get-in-Binary-2.ensures)) c.binary.ensures.value

pub value-returns-in-Binary-clause-out : goal.value-returns-in-Binary-clause-out
value-returns-in-Binary-clause-out t c = handed_out _ _ _ _ (ap (λ (l : Low). (l.part.lower c.args.self.now).out) (low_binary c.args.checked.now c.args.e.now _ _ _ _ _ _ c.in-Binary.is c.get-in-Binary.ensures c.get-in-Binary-2.ensures)) c.binary.ensures.out
