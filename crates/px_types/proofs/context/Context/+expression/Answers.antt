use Rattle.std.proofs.Common.{[], ◌∷◌, ◌++◌, true, false, ◌-◌, length, map, take, drop, not, sym, ap, ◌∙◌}
use Rattle.std.specs.Option.{option_copied}
use Rattle.px_tree.specs.declared.Expr.{Expr}
use Rattle.px_tree.specs.declared.ExprForm.TheVariants.{Call}
use Rattle.px_facts.specs.declared.types.Ty.TheVariants.{Int}
use Rattle.px_type_rules.specs.Breaches.{New, breach_if, after}
use Rattle.px_facts.specs.Types.{array_of, fits}
use Rattle.px_types.specs.Members.{names_no_class}
use Rattle.px_types.specs.Database.{asked, written, asked_operation, text_notes}
use Rattle.px_types.specs.Expressions.{Typed, typed, of_type, index, call, binary, arguments, types_of, database_notes}
use Rattle.px_types.proofs.Notes.{and_then}
use Rattle.px_types.proofs.Results.{same_if, same_on, then_on, first_of, first_and_rest}
use Rattle.px_types.proofs.Forms.{typed_index, typed_call, typed_new_array, typed_binary, text_is_read, no_text}
use Rattle.px_types.proofs.context.Context.+expression.Goals as goal

pub form-returns-in_ok-at-in-Index-clause-ty : goal.form-returns-in_ok-at-in-Index-clause-ty
form-returns-in_ok-at-in-Index-clause-ty t c =
    let of = c.in_ok-of-in-Index.ensures in
    let at = c.in_ok-at-in-Index.ensures in
    c.indexed.ensures.ty
    ∙ (λ i. (index c.args.token (of_type (of.ty i)) (of_type (at.ty i))).ty)
    ∙ ap (λ (x : Typed). x.ty) (sym (typed_index c.args.self.now c.args.form.now c.args.token c.args.negated c.args.locals.now _ _ _ _ c.in-Index.is c.get-in-Index.ensures c.get-in-Index-2.ensures))

pub form-returns-in_ok-at-in-Index-clause-notes : goal.form-returns-in_ok-at-in-Index-clause-notes
form-returns-in_ok-at-in-Index-clause-notes t c =
    let of = c.in_ok-of-in-Index.ensures in
    let at = c.in_ok-at-in-Index.ensures in
    let x = typed c.args.self.now c.get-in-Index.result.now c.args.negated c.args.locals.now in
    let y = typed c.args.self.now c.get-in-Index-2.result.now false c.args.locals.now in
    let ns = (index c.args.token (of_type x.ty) (of_type y.ty)).notes in
    and_then c.args.report.now c.expression-in-Index.new.report c.indexed.new.report x.notes (y.notes ++ ns) of.notes
    (and_then c.expression-in-Index.new.report c.expression-in-Index-2.new.report c.indexed.new.report y.notes ns at.notes (c.indexed.ensures.notes ∙ (λ i. after c.expression-in-Index-2.new.report (index c.args.token (of_type (of.ty i)) (of_type (at.ty i))).notes)))
    ∙ ap (λ (x : Typed). after c.args.report.now x.notes) (sym (typed_index c.args.self.now c.args.form.now c.args.token c.args.negated c.args.locals.now _ _ _ _ c.in-Index.is c.get-in-Index.ensures c.get-in-Index-2.ensures))

pub form-returns-in_ok-of-in-None-asked-clause-ty : goal.form-returns-in_ok-of-in-None-asked-clause-ty
form-returns-in_ok-of-in-None-asked-clause-ty t c =
    let of = c.in_ok-of-in-None-asked.ensures in
    let is = c.in-Call.is ∙ ap (λ o. Call o c.in-Call.name c.in-Call.args) c.in-Some.is in
    same_if c.call.result _ _ c.call.ensures.ty
    ((λ i. (call c.args.self.now c.args.token (of_type (of.ty i)) c.in-Call.name (map (typed c.args.self.now) (c.as_slice-in-None-asked.ensures i)) c.args.locals.now).ty)
    ∙ ap (λ (x : Typed). x.ty) (sym (typed_call c.args.self.now c.args.form.now c.args.token c.args.negated c.args.locals.now _ _ _ _ is c.get-in-None-asked.ensures (ap (λ (e : Expr). asked (written e) c.in-Call.name.bytes) (c.get-in-None-asked.ensures ∙ sym c.get-in-Some.ensures) ∙ sym c.asked.ensures ∙ c.in-None-asked.is))))

pub form-returns-in_ok-of-in-None-asked-clause-notes : goal.form-returns-in_ok-of-in-None-asked-clause-notes
form-returns-in_ok-of-in-None-asked-clause-notes t c =
    let of = c.in_ok-of-in-None-asked.ensures in
    let is = c.in-Call.is ∙ ap (λ o. Call o c.in-Call.name c.in-Call.args) c.in-Some.is in
    let x = typed c.args.self.now c.get-in-None-asked.result.now c.args.negated c.args.locals.now in
    let rest = (call c.args.self.now c.args.token (of_type x.ty) c.in-Call.name (map (typed c.args.self.now) c.in-Call.args) c.args.locals.now).notes in
    then_on c.call.result c.args.report.now c.expression-in-None-asked.new.report c.call.new.report x.notes rest _ of.notes
    (same_on c.call.result _ _ _ c.call.ensures.notes (λ i. after c.expression-in-None-asked.new.report (call c.args.self.now c.args.token (of_type (of.ty i)) c.in-Call.name (map (typed c.args.self.now) (c.as_slice-in-None-asked.ensures i)) c.args.locals.now).notes))
    (ap (λ (x : Typed). after c.args.report.now x.notes) (sym (typed_call c.args.self.now c.args.form.now c.args.token c.args.negated c.args.locals.now _ _ _ _ is c.get-in-None-asked.ensures (ap (λ (e : Expr). asked (written e) c.in-Call.name.bytes) (c.get-in-None-asked.ensures ∙ sym c.get-in-Some.ensures) ∙ sym c.asked.ensures ∙ c.in-None-asked.is))))

pub form-returns-in_ok-length-in-NewArray-clause-ty : goal.form-returns-in_ok-length-in-NewArray-clause-ty
form-returns-in_ok-length-in-NewArray-clause-ty t c =
    c.array.ensures
    ∙ ap array_of c.base_type.ensures
    ∙ ap (λ (x : Typed). x.ty) (sym (typed_new_array c.args.self.now c.args.form.now c.args.token c.args.negated c.args.locals.now _ _ _ c.in-NewArray.is c.get-in-NewArray.ensures))

pub form-returns-in_ok-length-in-NewArray-clause-notes : goal.form-returns-in_ok-length-in-NewArray-clause-notes
form-returns-in_ok-length-in-NewArray-clause-notes t c =
    let length = c.in_ok-length-in-NewArray.ensures in
    let fitting = c.fits.ensures ∙ ap (fits Int) length.ty in
    let x = typed c.args.self.now c.get-in-NewArray.result.now false c.args.locals.now in
    let base = names_no_class c.args.self.now.classes.numbers c.in-NewArray.base in
    let ns = breach_if (not (fits Int x.ty)) c.args.token 6 in
    and_then c.args.report.now c.created.new.self c.breach_if.new.self (New c.args.token ∷ []) (base ++ (x.notes ++ ns)) c.created.ensures
    (and_then c.created.new.self c.check_base.new.report c.breach_if.new.self base (x.notes ++ ns) c.check_base.ensures
    (and_then c.check_base.new.report c.expression-in-NewArray.new.report c.breach_if.new.self x.notes ns length.notes
    (c.breach_if.ensures ∙ (λ i. after c.expression-in-NewArray.new.report (breach_if (not (fitting i)) c.args.token 6)))))
    ∙ ap (λ (x : Typed). after c.args.report.now x.notes) (sym (typed_new_array c.args.self.now c.args.form.now c.args.token c.args.negated c.args.locals.now _ _ _ c.in-NewArray.is c.get-in-NewArray.ensures))

pub form-returns-in_ok-right-in-Binary-clause-ty : goal.form-returns-in_ok-right-in-Binary-clause-ty
form-returns-in_ok-right-in-Binary-clause-ty t c =
    let left = c.in_ok-left-in-Binary.ensures in
    let right = c.in_ok-right-in-Binary.ensures in
    c.binary.ensures.ty
    ∙ (λ i. (binary c.args.token c.in-Binary.sign c.in-Binary.sign_token (of_type (left.ty i)) (of_type (right.ty i))).ty)
    ∙ ap (λ (x : Typed). x.ty) (sym (typed_binary c.args.self.now c.args.form.now c.args.token c.args.negated c.args.locals.now _ _ _ _ _ _ c.in-Binary.is c.get-in-Binary.ensures c.get-in-Binary-2.ensures))

pub form-returns-in_ok-right-in-Binary-clause-notes : goal.form-returns-in_ok-right-in-Binary-clause-notes
form-returns-in_ok-right-in-Binary-clause-notes t c =
    let left = c.in_ok-left-in-Binary.ensures in
    let right = c.in_ok-right-in-Binary.ensures in
    let x = typed c.args.self.now c.get-in-Binary.result.now false c.args.locals.now in
    let y = typed c.args.self.now c.get-in-Binary-2.result.now false c.args.locals.now in
    let ns = (binary c.args.token c.in-Binary.sign c.in-Binary.sign_token (of_type x.ty) (of_type y.ty)).notes in
    and_then c.args.report.now c.expression-in-Binary.new.report c.binary.new.report x.notes (y.notes ++ ns) left.notes
    (and_then c.expression-in-Binary.new.report c.expression-in-Binary-2.new.report c.binary.new.report y.notes ns right.notes (c.binary.ensures.notes ∙ (λ i. after c.expression-in-Binary-2.new.report (binary c.args.token c.in-Binary.sign c.in-Binary.sign_token (of_type (left.ty i)) (of_type (right.ty i))).notes)))
    ∙ ap (λ (x : Typed). after c.args.report.now x.notes) (sym (typed_binary c.args.self.now c.args.form.now c.args.token c.args.negated c.args.locals.now _ _ _ _ _ _ c.in-Binary.is c.get-in-Binary.ensures c.get-in-Binary-2.ensures))

pub database_arguments-returns-in_ok-types-in-Some : goal.database_arguments-returns-in_ok-types-in-Some
database_arguments-returns-in_ok-types-in-Some t c =
    let s = c.args.self.now in
    let schema = s.classes.library.schema in
    let l = c.args.locals.now in
    let e = c.text-item.result in
    let js = map (typed s) (take (length c.args.args.now - 1) (drop 1 c.args.args.now)) in
    let first = first_and_rest c.args.args.now e c.in-len1-up.len_at_least c.text-item.is in
    let token = e.token in
    let operation = asked_operation schema c.args.verb c.in-Some.bytes.now in
    then_on c.text.result c.args.report.now c.arguments.new.report c.text.new.report
    (arguments c.args.database [] 0 l js) (text_notes c.args.database token operation (types_of l js)) _
    c.in_ok-types-in-Some.ensures.notes
    (same_on c.text.result _ _ _ c.text.ensures
    ((λ i. after c.arguments.new.report (text_notes c.args.database token operation (c.as_slice.ensures i)))
    ∙ (λ i. after c.arguments.new.report (text_notes c.args.database token operation (c.in_ok-types-in-Some.ensures.types i)))))
    (ap (after c.args.report.now) (sym (text_is_read s schema c.args.database c.args.verb e js l c.in-Some.bytes.now (sym c.literal.ensures ∙ ap option_copied c.in-Some.is)))
    ∙ (λ i. after c.args.report.now (database_notes schema c.args.database c.args.verb (map (typed s) (sym first i)) l)))

pub database_arguments-returns-in_ok-arguments-in-None : goal.database_arguments-returns-in_ok-arguments-in-None
database_arguments-returns-in_ok-arguments-in-None t c =
    let s = c.args.self.now in
    let schema = s.classes.library.schema in
    let l = c.args.locals.now in
    let e = c.text-item.result in
    let js = map (typed s) (drop 1 c.args.args.now) in
    let first = first_of c.args.args.now e c.in-len1-up.len_at_least c.text-item.is in
    and_then c.args.report.now c.arguments-in-None.new.report c.breach-in-None.new.self
    (arguments c.args.database [] 0 l (map (typed s) c.args.args.now)) (breach_if true c.args.database 12)
    c.in_ok-arguments-in-None.ensures.notes c.breach-in-None.ensures
    ∙ (λ i. after c.args.report.now (arguments c.args.database [] 0 l (map (typed s) (first i)) ++ breach_if true c.args.database 12))
    ∙ ap (after c.args.report.now) (sym (no_text s schema c.args.database c.args.verb e js l (sym c.literal.ensures ∙ ap option_copied c.in-None.is)))
    ∙ (λ i. after c.args.report.now (database_notes schema c.args.database c.args.verb (map (typed s) (sym first i)) l))
