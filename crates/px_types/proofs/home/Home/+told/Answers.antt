use Rattle.std.proofs.Common.{[], ◌∷◌, ◌++◌, map, sym, ap, ◌∙◌}
use Rattle.std.specs.Option.{option_map}
use Rattle.px_types.specs.Slots.{left, closed}
use Rattle.px_types.specs.Facts.{no_fact}
use Rattle.px_types.specs.Known.{known, fact_only, all_nodes}
use Rattle.px_types.specs.Told.{Told, told, in_order, otherwise}
use Rattle.px_types.proofs.ToldForms.{told_block, told_if, told_while, told_for, then_added, same_on, for_scopes, for_nodes}
use Rattle.px_types.proofs.home.Home.+told.Goals as goal

pub statement-returns-in_ok-add_fact-in-Block-clause-nodes : goal.statement-returns-in_ok-add_fact-in-Block-clause-nodes
statement-returns-in_ok-add_fact-in-Block-clause-nodes t c =
    let s = c.args.self.now in
    same_on c.block.result _ _ _
    (then_added c.block.result c.args.nodes.now c.add_fact.new.nodes c.block.new.nodes (fact_only no_fact ∷ []) (in_order (map (told s) c.as_slice.result.now) c.args.scope.now).nodes c.in_ok-add_fact-in-Block.ensures c.block.ensures.nodes)
    ((λ i. c.args.nodes.now ++ fact_only no_fact ∷ (in_order (map (told s) (c.as_slice.ensures i)) c.args.scope.now).nodes)
    ∙ ap (λ (x : Told). c.args.nodes.now ++ x.nodes) (sym (told_block s c.args.s.now c.args.scope.now _ c.in-Block.is)))

pub statement-returns-in_ok-statement-in-If-clause-scope : goal.statement-returns-in_ok-statement-in-If-clause-scope
statement-returns-in_ok-statement-in-If-clause-scope t c =
    let s = c.args.self.now in
    let other = option_map (told s) c.in-If.no in
    same_on c.otherwise.result _ _ _ c.otherwise.ensures.scope
    ((λ i. (otherwise other (c.in_ok-statement-in-If.ensures.scope i)).scope)
    ∙ ap (λ (x : Told). x.scope) (sym (told_if s c.args.s.now c.args.scope.now _ _ _ _ c.in-If.is c.get.ensures)))

pub statement-returns-in_ok-statement-in-If-clause-nodes : goal.statement-returns-in_ok-statement-in-If-clause-nodes
statement-returns-in_ok-statement-in-If-clause-nodes t c =
    let s = c.args.self.now in
    let other = option_map (told s) c.in-If.no in
    let test = all_nodes (known s c.in-If.test c.args.scope.now) in
    let first = told s c.get.result.now c.args.scope.now in
    let rest = (otherwise other c.statement.new.scope).nodes in
    same_on c.otherwise.result _ _ _
    (then_added c.otherwise.result c.args.nodes.now c.value.new.nodes c.otherwise.new.nodes (fact_only no_fact ∷ test) (first.nodes ++ rest) c.in_ok-value-in-If.ensures
    (then_added c.otherwise.result c.value.new.nodes c.statement.new.nodes c.otherwise.new.nodes first.nodes rest c.in_ok-statement-in-If.ensures.nodes c.otherwise.ensures.nodes))
    ((λ i. c.args.nodes.now ++ fact_only no_fact ∷ (test ++ (first.nodes ++ (otherwise other (c.in_ok-statement-in-If.ensures.scope i)).nodes)))
    ∙ ap (λ (x : Told). c.args.nodes.now ++ x.nodes) (sym (told_if s c.args.s.now c.args.scope.now _ _ _ _ c.in-If.is c.get.ensures)))

pub statement-returns-in_ok-value-in-While-clause-scope : goal.statement-returns-in_ok-value-in-While-clause-scope
statement-returns-in_ok-value-in-While-clause-scope t c =
    same_on c.statement-in-While.result _ _ _ c.statement-in-While.ensures.scope
    (ap (λ (x : Told). x.scope) (sym (told_while c.args.self.now c.args.s.now c.args.scope.now _ _ _ c.in-While.is c.get-in-While.ensures)))

pub statement-returns-in_ok-value-in-While-clause-nodes : goal.statement-returns-in_ok-value-in-While-clause-nodes
statement-returns-in_ok-value-in-While-clause-nodes t c =
    let s = c.args.self.now in
    same_on c.statement-in-While.result _ _ _
    (then_added c.statement-in-While.result c.args.nodes.now c.value-in-While.new.nodes c.statement-in-While.new.nodes
    (fact_only no_fact ∷ all_nodes (known s c.in-While.test c.args.scope.now)) (told s c.get-in-While.result.now c.args.scope.now).nodes c.in_ok-value-in-While.ensures c.statement-in-While.ensures.nodes)
    (ap (λ (x : Told). c.args.nodes.now ++ x.nodes) (sym (told_while s c.args.s.now c.args.scope.now _ _ _ c.in-While.is c.get-in-While.ensures)))

pub statement-returns-in_ok-statement-in-For-3-clause-scope : goal.statement-returns-in_ok-statement-in-For-3-clause-scope
statement-returns-in_ok-statement-in-For-3-clause-scope t c =
    let s = c.args.self.now in
    c.leave.ensures
    ∙ (λ i. left (c.len-count.ensures i) c.statement-in-For-3.new.scope)
    ∙ ap (closed c.args.scope.now)
    (for_scopes (told s c.get-in-For.result.now) (told s c.get-in-For-2.result.now) (told s c.get-in-For-3.result.now) c.args.scope.now c.statement-in-For.new.scope c.statement-in-For-2.new.scope c.statement-in-For-3.new.scope
    c.in_ok-statement-in-For.ensures.scope c.in_ok-statement-in-For-2.ensures.scope c.in_ok-statement-in-For-3.ensures.scope)
    ∙ ap (λ (x : Told). x.scope) (sym (told_for s c.args.s.now c.args.scope.now _ _ _ _ _ _ _ c.in-For.is c.get-in-For.ensures c.get-in-For-2.ensures c.get-in-For-3.ensures))

pub statement-returns-in_ok-statement-in-For-3-clause-nodes : goal.statement-returns-in_ok-statement-in-For-3-clause-nodes
statement-returns-in_ok-statement-in-For-3-clause-nodes t c =
    let s = c.args.self.now in
    for_nodes s (told s c.get-in-For.result.now) (told s c.get-in-For-2.result.now) (told s c.get-in-For-3.result.now) c.in-For.test
    c.args.scope.now c.statement-in-For.new.scope c.statement-in-For-2.new.scope
    c.args.nodes.now c.add_fact-in-For.new.nodes c.statement-in-For.new.nodes c.expression.new.nodes c.statement-in-For-2.new.nodes c.statement-in-For-3.new.nodes
    c.in_ok-add_fact-in-For.ensures c.in_ok-statement-in-For.ensures.scope c.in_ok-statement-in-For.ensures.nodes c.in_ok-expression-in-For.ensures.nodes
    c.in_ok-statement-in-For-2.ensures.scope c.in_ok-statement-in-For-2.ensures.nodes c.in_ok-statement-in-For-3.ensures.nodes
    ∙ ap (λ (x : Told). c.args.nodes.now ++ x.nodes) (sym (told_for s c.args.s.now c.args.scope.now _ _ _ _ _ _ _ c.in-For.is c.get-in-For.ensures c.get-in-For-2.ensures c.get-in-For-3.ensures))
