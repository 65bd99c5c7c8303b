use Rattle.std.proofs.Common.{List, [], ◌∷◌, ◌++◌, map, refl, sym, ap, ◌∙◌, slice_set}
use Rattle.px_tree.specs.declared.Expr.{Expr}
use Rattle.px_tree.specs.declared.ExprForm.TheVariants.{Call}
use Rattle.px_types.specs.declared.node.Node.{Node}
use Rattle.px_facts.specs.Types.{indexed}
use Rattle.px_type_rules.specs.Operators.{group_type}
use Rattle.px_types.specs.Facts.{typed_only, method_fact, database_fact}
use Rattle.px_types.specs.Database.{asked, written}
use Rattle.px_types.specs.Known.{Known, known, known_form, fact_only, all_nodes, argument_nodes}
use Rattle.px_types.proofs.KnownForms.{known_by_form, known_number, known_text, known_null, known_this, known_name, known_index, known_call, known_database_call, known_new, known_binary, no_more, filled, both_added, on_ok, same_ok}
use Rattle.px_types.proofs.home.Home.+known.Goals as goal

pub expression-returns-clause-nodes : goal.expression-returns-clause-nodes
expression-returns-clause-nodes t c =
    let inner = (known_form c.args.self.now c.args.e.now.form c.args.scope.now).inner in
    c.set.ensures
    ∙ ap (λ (xs : List Node). slice_set xs c.len-place.result c.in_ok-own.own) (c.in_ok-own.ensures.nodes ∙ ap (λ (xs : List Node). xs ++ inner) c.in_ok-push.ensures.ok)
    ∙ filled c.args.nodes.now inner _ c.in_ok-own.own c.len-place.result c.len-place.ensures
    ∙ (λ i. c.args.nodes.now ++ c.in_ok-own.ensures.own i ∷ inner)
    ∙ ap (λ (x : Known). c.args.nodes.now ++ all_nodes x) (sym (known_by_form c.args.self.now c.args.e.now c.args.scope.now))

pub form-returns-in-Number-clause-nodes : goal.form-returns-in-Number-clause-nodes
form-returns-in-Number-clause-nodes t c = no_more c.args.nodes.now _ _ (known_number c.args.self.now c.args.form.now c.args.scope.now _ _ c.in-Number.is) refl

pub form-returns-in-Str-clause-nodes : goal.form-returns-in-Str-clause-nodes
form-returns-in-Str-clause-nodes t c = no_more c.args.nodes.now _ _ (known_text c.args.self.now c.args.form.now c.args.scope.now _ c.in-Str.is) refl

pub form-returns-in-Null-clause-nodes : goal.form-returns-in-Null-clause-nodes
form-returns-in-Null-clause-nodes t c = no_more c.args.nodes.now _ _ (known_null c.args.self.now c.args.form.now c.args.scope.now c.in-Null.is) refl

pub form-returns-in-This-clause-nodes : goal.form-returns-in-This-clause-nodes
form-returns-in-This-clause-nodes t c = no_more c.args.nodes.now _ _ (known_this c.args.self.now c.args.form.now c.args.scope.now c.in-This.is) refl

pub form-returns-in_ok-expression-in-Index-clause-own : goal.form-returns-in_ok-expression-in-Index-clause-own
form-returns-in_ok-expression-in-Index-clause-own t c =
    c.fact_only-in-Index.ensures
    ∙ ap fact_only (c.typed_only-in-Index.ensures ∙ ap typed_only (c.indexed.ensures ∙ ap indexed c.in_ok-of-in-Index.ensures.ty))
    ∙ ap (λ (x : Known). x.own) (sym (known_index c.args.self.now c.args.form.now c.args.scope.now _ _ _ _ c.in-Index.is c.get-in-Index.ensures c.get-in-Index-2.ensures))

pub form-returns-in_ok-expression-in-Index-clause-nodes : goal.form-returns-in_ok-expression-in-Index-clause-nodes
form-returns-in_ok-expression-in-Index-clause-nodes t c =
    both_added c.args.nodes.now c.expression-in-Index.new.nodes c.expression-in-Index-2.new.nodes
    (all_nodes (known c.args.self.now c.get-in-Index.result.now c.args.scope.now)) (all_nodes (known c.args.self.now c.get-in-Index-2.result.now c.args.scope.now))
    c.in_ok-of-in-Index.ensures.nodes c.in_ok-expression-in-Index.ensures.nodes
    ∙ ap (λ (x : Known). c.args.nodes.now ++ x.inner) (sym (known_index c.args.self.now c.args.form.now c.args.scope.now _ _ _ _ c.in-Index.is c.get-in-Index.ensures c.get-in-Index-2.ensures))

pub form-returns-in_ok-right-in-Binary-clause-own : goal.form-returns-in_ok-right-in-Binary-clause-own
form-returns-in_ok-right-in-Binary-clause-own t c =
    c.fact_only-in-Binary.ensures
    ∙ ap fact_only (c.typed_only-in-Binary.ensures
    ∙ ap typed_only (c.group_type.ensures ∙ (λ i. group_type (c.group_of.ensures i) (c.in_ok-left-in-Binary.ensures.ty i) (c.in_ok-right-in-Binary.ensures.ty i))))
    ∙ ap (λ (x : Known). x.own) (sym (known_binary c.args.self.now c.args.form.now c.args.scope.now _ _ _ _ _ _ c.in-Binary.is c.get-in-Binary.ensures c.get-in-Binary-2.ensures))

pub form-returns-in_ok-right-in-Binary-clause-nodes : goal.form-returns-in_ok-right-in-Binary-clause-nodes
form-returns-in_ok-right-in-Binary-clause-nodes t c =
    both_added c.args.nodes.now c.expression-in-Binary.new.nodes c.expression-in-Binary-2.new.nodes
    (all_nodes (known c.args.self.now c.get-in-Binary.result.now c.args.scope.now)) (all_nodes (known c.args.self.now c.get-in-Binary-2.result.now c.args.scope.now))
    c.in_ok-left-in-Binary.ensures.nodes c.in_ok-right-in-Binary.ensures.nodes
    ∙ ap (λ (x : Known). c.args.nodes.now ++ x.inner) (sym (known_binary c.args.self.now c.args.form.now c.args.scope.now _ _ _ _ _ _ c.in-Binary.is c.get-in-Binary.ensures c.get-in-Binary-2.ensures))

pub form-returns-in_ok-fact-in-Name-clause-nodes : goal.form-returns-in_ok-fact-in-Name-clause-nodes
form-returns-in_ok-fact-in-Name-clause-nodes t c = no_more c.args.nodes.now _ _ (known_name c.args.self.now c.args.form.now c.args.scope.now _ c.in-Name.is) refl

pub form-returns-in_ok-fact-in-NewObject-clause-nodes : goal.form-returns-in_ok-fact-in-NewObject-clause-nodes
form-returns-in_ok-fact-in-NewObject-clause-nodes t c = no_more c.args.nodes.now _ _ (known_new c.args.self.now c.args.form.now c.args.scope.now _ c.in-NewObject.is) refl

pub form-returns-in_ok-arguments-in-Some-asked-clause-nodes : goal.form-returns-in_ok-arguments-in-Some-asked-clause-nodes
form-returns-in_ok-arguments-in-Some-asked-clause-nodes t c =
    let is = c.in-Call.is ∙ ap (λ o. Call o c.in-Call.name c.in-Call.args) c.in-Some.is in
    let s = c.args.self.now in
    on_ok c.database_node.result
    (both_added c.args.nodes.now c.add_fact.new.nodes c.arguments.new.nodes
    (fact_only database_fact ∷ []) (argument_nodes c.args.scope.now (map (known s) c.in-Call.args))
    (c.in_ok-add_fact-in-Some-asked.ensures ∙ (λ i. c.args.nodes.now ++ fact_only (c.database_fact.ensures i) ∷ []))
    (c.in_ok-arguments-in-Some-asked.ensures ∙ (λ i. c.add_fact.new.nodes ++ argument_nodes c.args.scope.now (map (known s) (c.as_slice-in-Some-asked.ensures i))))
    ∙ ap (λ (x : Known). c.args.nodes.now ++ x.inner) (sym (known_database_call s c.args.form.now c.args.scope.now _ _ _ _ _ is c.get-in-Some.ensures (sym c.asked.ensures ∙ c.in-Some-asked.is))))

pub form-returns-in_ok-arguments-in-None-asked-clause-own : goal.form-returns-in_ok-arguments-in-None-asked-clause-own
form-returns-in_ok-arguments-in-None-asked-clause-own t c =
    let is = c.in-Call.is ∙ ap (λ o. Call o c.in-Call.name c.in-Call.args) c.in-Some.is in
    let no_verb = ap (λ (e : Expr). asked (written e) c.in-Call.name.bytes) (c.get-in-None-asked.ensures ∙ sym c.get-in-Some.ensures) ∙ sym c.asked.ensures ∙ c.in-None-asked.is in
    same_ok c.method_node.result _ _ c.method_node.ensures
    ((λ i. fact_only (method_fact c.args.self.now (c.in_ok-of-in-None-asked.ensures.ty i) (c.as_slice-in-None-asked-2.ensures i)))
    ∙ ap (λ (x : Known). x.own) (sym (known_call c.args.self.now c.args.form.now c.args.scope.now _ _ _ _ is c.get-in-None-asked.ensures no_verb)))

pub form-returns-in_ok-arguments-in-None-asked-clause-nodes : goal.form-returns-in_ok-arguments-in-None-asked-clause-nodes
form-returns-in_ok-arguments-in-None-asked-clause-nodes t c =
    let is = c.in-Call.is ∙ ap (λ o. Call o c.in-Call.name c.in-Call.args) c.in-Some.is in
    let no_verb = ap (λ (e : Expr). asked (written e) c.in-Call.name.bytes) (c.get-in-None-asked.ensures ∙ sym c.get-in-Some.ensures) ∙ sym c.asked.ensures ∙ c.in-None-asked.is in
    let s = c.args.self.now in
    on_ok c.method_node.result
    (both_added c.args.nodes.now c.expression-in-None-asked.new.nodes c.arguments-in-None-asked.new.nodes
    (all_nodes (known s c.get-in-None-asked.result.now c.args.scope.now)) (argument_nodes c.args.scope.now (map (known s) c.in-Call.args))
    c.in_ok-of-in-None-asked.ensures.nodes
    (c.in_ok-arguments-in-None-asked.ensures ∙ (λ i. c.expression-in-None-asked.new.nodes ++ argument_nodes c.args.scope.now (map (known s) (c.as_slice-in-None-asked.ensures i))))
    ∙ ap (λ (x : Known). c.args.nodes.now ++ x.inner) (sym (known_call s c.args.form.now c.args.scope.now _ _ _ _ is c.get-in-None-asked.ensures no_verb)))
