use Rattle.std.proofs.Common.{◌++◌, true, false, take, sym, ap, ◌∙◌}
use Rattle.std.specs.Option.{option_map}
use Rattle.px_type_rules.specs.Breaches.{after}
use Rattle.px_facts.specs.Types.{is_printable}
use Rattle.px_types.specs.Expressions.{misfit, typed}
use Rattle.px_types.specs.Statements.{Judged, judged, condition, otherwise}
use Rattle.px_types.proofs.Notes.{and_then}
use Rattle.px_types.proofs.ForLoops.{for_notes, for_locals}
use Rattle.px_types.proofs.StatementForms.{judged_if, judged_while, judged_for, judged_print}
use Rattle.px_types.proofs.context.Context.+statement.Goals as goal

pub statement_form-returns-in_ok-either-in-If-clause-completes : goal.statement_form-returns-in_ok-either-in-If-clause-completes
statement_form-returns-in_ok-either-in-If-clause-completes t c =
    let branch = c.in_ok-completes-in-If.ensures in
    let other = option_map (judged c.args.self.now) c.in-If.no in
    c.in_ok-either-in-If.ensures.completes
    ∙ (λ i. (otherwise (branch.completes i) (branch.locals i) other).completes)
    ∙ ap (λ (j : Judged). j.completes) (sym (judged_if c.args.self.now c.args.form.now c.args.token c.args.locals.now _ _ _ _ c.in-If.is c.get.ensures))

pub statement_form-returns-in_ok-either-in-If-clause-locals : goal.statement_form-returns-in_ok-either-in-If-clause-locals
statement_form-returns-in_ok-either-in-If-clause-locals t c =
    let branch = c.in_ok-completes-in-If.ensures in
    let other = option_map (judged c.args.self.now) c.in-If.no in
    c.in_ok-either-in-If.ensures.locals
    ∙ (λ i. (otherwise (branch.completes i) (branch.locals i) other).locals)
    ∙ ap (λ (j : Judged). j.locals) (sym (judged_if c.args.self.now c.args.form.now c.args.token c.args.locals.now _ _ _ _ c.in-If.is c.get.ensures))

pub statement_form-returns-in_ok-either-in-If-clause-notes : goal.statement_form-returns-in_ok-either-in-If-clause-notes
statement_form-returns-in_ok-either-in-If-clause-notes t c =
    let branch = c.in_ok-completes-in-If.ensures in
    let other = option_map (judged c.args.self.now) c.in-If.no in
    let first = judged c.args.self.now c.get.result.now true c.args.locals.now in
    let rest = otherwise first.completes first.locals other in
    and_then c.args.report.now c.value.new.report c.otherwise.new.report (condition c.args.self.now c.args.token c.in-If.test c.args.locals.now) (first.notes ++ rest.notes) c.in_ok-value-in-If.ensures
    (and_then c.value.new.report c.statement.new.report c.otherwise.new.report first.notes rest.notes branch.notes
    (c.in_ok-either-in-If.ensures.notes ∙ (λ i. after c.statement.new.report (otherwise (branch.completes i) (branch.locals i) other).notes)))
    ∙ ap (λ (j : Judged). after c.args.report.now j.notes) (sym (judged_if c.args.self.now c.args.form.now c.args.token c.args.locals.now _ _ _ _ c.in-If.is c.get.ensures))

pub statement_form-returns-in_ok-statement-in-While-clause-completes : goal.statement_form-returns-in_ok-statement-in-While-clause-completes
statement_form-returns-in_ok-statement-in-While-clause-completes t c =
    ap (λ (j : Judged). j.completes) (sym (judged_while c.args.self.now c.args.form.now c.args.token c.args.locals.now _ _ _ c.in-While.is c.get-in-While.ensures))

pub statement_form-returns-in_ok-statement-in-While-clause-locals : goal.statement_form-returns-in_ok-statement-in-While-clause-locals
statement_form-returns-in_ok-statement-in-While-clause-locals t c =
    c.in_ok-statement-in-While.ensures.locals
    ∙ ap (λ (j : Judged). j.locals) (sym (judged_while c.args.self.now c.args.form.now c.args.token c.args.locals.now _ _ _ c.in-While.is c.get-in-While.ensures))

pub statement_form-returns-in_ok-statement-in-While-clause-notes : goal.statement_form-returns-in_ok-statement-in-While-clause-notes
statement_form-returns-in_ok-statement-in-While-clause-notes t c =
    let body = judged c.args.self.now c.get-in-While.result.now true c.args.locals.now in
    and_then c.args.report.now c.value-in-While.new.report c.statement-in-While.new.report (condition c.args.self.now c.args.token c.in-While.test c.args.locals.now) body.notes
    c.in_ok-value-in-While.ensures c.in_ok-statement-in-While.ensures.notes
    ∙ ap (λ (j : Judged). after c.args.report.now j.notes) (sym (judged_while c.args.self.now c.args.form.now c.args.token c.args.locals.now _ _ _ c.in-While.is c.get-in-While.ensures))

pub statement_form-returns-in_ok-statement-in-For-3-clause-completes : goal.statement_form-returns-in_ok-statement-in-For-3-clause-completes
statement_form-returns-in_ok-statement-in-For-3-clause-completes t c =
    ap (λ (j : Judged). j.completes) (sym (judged_for c.args.self.now c.args.form.now c.args.token c.args.locals.now _ _ _ _ _ _ _ c.in-For.is c.get-in-For.ensures c.get-in-For-2.ensures c.get-in-For-3.ensures))

pub statement_form-returns-in_ok-statement-in-For-3-clause-locals : goal.statement_form-returns-in_ok-statement-in-For-3-clause-locals
statement_form-returns-in_ok-statement-in-For-3-clause-locals t c =
    let s = c.args.self.now in
    let inner = c.statement-in-For-3.new.locals in
    c.truncate.ensures
    ∙ (λ i. record { table = record { names = take (c.len-count.ensures i) inner.table.names; values = take (c.len-count.ensures i) inner.table.values }; usable = c.args.locals.now.usable })
    ∙ for_locals s c.args.token (judged s c.get-in-For.result.now) (judged s c.get-in-For-2.result.now) (judged s c.get-in-For-3.result.now) c.in-For.test c.args.locals.now c.statement-in-For.new.locals c.statement-in-For-2.new.locals inner
    c.in_ok-statement-in-For.ensures.locals c.in_ok-statement-in-For-2.ensures.locals c.in_ok-statement-in-For-3.ensures.locals
    ∙ ap (λ (j : Judged). j.locals) (sym (judged_for s c.args.form.now c.args.token c.args.locals.now _ _ _ _ _ _ _ c.in-For.is c.get-in-For.ensures c.get-in-For-2.ensures c.get-in-For-3.ensures))

pub statement_form-returns-in_ok-statement-in-For-3-clause-notes : goal.statement_form-returns-in_ok-statement-in-For-3-clause-notes
statement_form-returns-in_ok-statement-in-For-3-clause-notes t c =
    let s = c.args.self.now in
    for_notes s c.args.token (judged s c.get-in-For.result.now) (judged s c.get-in-For-2.result.now) (judged s c.get-in-For-3.result.now) c.in-For.test c.args.locals.now c.statement-in-For.new.locals c.statement-in-For-2.new.locals
    c.args.report.now c.statement-in-For.new.report c.value-in-For.new.report c.statement-in-For-2.new.report c.statement-in-For-3.new.report
    c.in_ok-statement-in-For.ensures.locals c.in_ok-statement-in-For.ensures.notes c.in_ok-value-in-For.ensures c.in_ok-statement-in-For-2.ensures.locals c.in_ok-statement-in-For-2.ensures.notes c.in_ok-statement-in-For-3.ensures.notes
    ∙ ap (λ (j : Judged). after c.args.report.now j.notes) (sym (judged_for s c.args.form.now c.args.token c.args.locals.now _ _ _ _ _ _ _ c.in-For.is c.get-in-For.ensures c.get-in-For-2.ensures c.get-in-For-3.ensures))

pub statement_form-returns-in_ok-ty-in-Print-clause-completes : goal.statement_form-returns-in_ok-ty-in-Print-clause-completes
statement_form-returns-in_ok-ty-in-Print-clause-completes t c =
    ap (λ (j : Judged). j.completes) (sym (judged_print c.args.self.now c.args.form.now c.args.token c.args.locals.now _ c.in-Print.is))

pub statement_form-returns-in_ok-ty-in-Print-clause-locals : goal.statement_form-returns-in_ok-ty-in-Print-clause-locals
statement_form-returns-in_ok-ty-in-Print-clause-locals t c =
    ap (λ (j : Judged). j.locals) (sym (judged_print c.args.self.now c.args.form.now c.args.token c.args.locals.now _ c.in-Print.is))

pub statement_form-returns-in_ok-ty-in-Print-clause-notes : goal.statement_form-returns-in_ok-ty-in-Print-clause-notes
statement_form-returns-in_ok-ty-in-Print-clause-notes t c =
    let x = typed c.args.self.now c.in-Print.value false c.args.locals.now in
    let fitting = c.is_printable.ensures ∙ ap is_printable c.in_ok-ty-in-Print.ensures.ty in
    and_then c.args.report.now c.expression-in-Print.new.report c.breach_if.new.self x.notes (misfit (is_printable x.ty) c.args.token) c.in_ok-ty-in-Print.ensures.notes
    (c.breach_if.ensures ∙ (λ i. after c.expression-in-Print.new.report (misfit (fitting i) c.args.token)))
    ∙ ap (λ (j : Judged). after c.args.report.now j.notes) (sym (judged_print c.args.self.now c.args.form.now c.args.token c.args.locals.now _ c.in-Print.is))
