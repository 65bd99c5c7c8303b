-- What is known of a statement, and of the statements and expressions in it.
use Rattle.std.specs.Prelude.{List, [], ◌∷◌, ◌++◌, Option, Some, None, length}
use Rattle.px_tree.specs.declared.Name.{Name}
use Rattle.px_tree.specs.declared.TypeName.{TypeName}
use Rattle.px_tree.specs.declared.Expr.{Expr}
use Rattle.px_tree.specs.declared.Stmt.{Stmt, Stmt-F, fold-Stmt}
use Rattle.px_tree.specs.declared.StmtForm.{StmtForm-F}
use Rattle.px_tree.specs.declared.StmtForm.TheOpen.{StmtForm-F as st}
use Rattle.px_types.specs.declared.node.Node.{Node}
use Rattle.px_types.specs.declared.home.Home.{Home}
use Rattle.px_types.specs.declared.scope.Scope.{Scope}
use Rattle.px_types.specs.Members.{type_of}
use Rattle.px_types.specs.Slots.{with_slot, slot_of, closed}
use Rattle.px_types.specs.Facts.{no_fact, local_fact, changed_fact}
use Rattle.px_types.specs.Known.{known, fact_only, all_nodes}

-- what is known of a statement and of what is in it, in the order of their numbers, and the locals in scope behind it
pub record Told : Type 0 where
  pub nodes : List Node
  pub scope : Scope

-- what is known depends on the locals in scope
abbrev pub Tells : Type 0
Tells = Scope → Told

-- a statement that declares nothing, with what is in it
abbrev pub plain : List Node → Scope → Told
plain inner scope = record { nodes = fact_only no_fact ∷ inner; scope = scope }

abbrev pub nothing : Scope → Told
nothing scope = record { nodes = []; scope = scope }

-- one statement after another
abbrev pub in_order : List Tells → Scope → Told
in_order [] scope = nothing scope
in_order (t ∷ ts) scope =
    let first = t scope in
    let rest = in_order ts first.scope in
    record { nodes = first.nodes ++ rest.nodes; scope = rest.scope }

abbrev pub block_told : List Tells → Scope → Told
block_told items scope =
    let inner = in_order items scope in
    record { nodes = fact_only no_fact ∷ inner.nodes; scope = closed scope inner.scope }

-- a local isn't used in its initialiser
abbrev pub local_told : Home → TypeName → Name → Expr → Scope → Told
local_told home of name value scope =
    let t = type_of home.classes.numbers of in
    record { nodes = fact_only (local_fact t (length scope.slots)) ∷ all_nodes (known home value scope); scope = with_slot name.bytes t scope }

abbrev pub assign_told : Home → Expr → Expr → Scope → Told
assign_told home place value scope = plain (all_nodes (known home place scope) ++ all_nodes (known home value scope)) scope

-- a local is changed in place
abbrev pub change_told : Name → List Node → Scope → Told
change_told name inner scope = record { nodes = fact_only (changed_fact (slot_of name.bytes scope)) ∷ inner; scope = scope }

abbrev pub value_told : Home → Expr → Scope → Told
value_told home value scope = plain (all_nodes (known home value scope)) scope

abbrev pub return_told : Home → Option Expr → Scope → Told
return_told home None scope = plain [] scope
return_told home (Some value) scope = value_told home value scope

abbrev pub otherwise : Option Tells → Scope → Told
otherwise None scope = nothing scope
otherwise (Some t) scope = t scope

abbrev pub if_told : Home → Expr → Tells → Option Tells → Scope → Told
if_told home test branch other scope =
    let y = branch scope in
    let n = otherwise other y.scope in
    plain (all_nodes (known home test scope) ++ (y.nodes ++ n.nodes)) n.scope

abbrev pub while_told : Home → Expr → Tells → Scope → Told
while_told home test body scope =
    let b = body scope in
    plain (all_nodes (known home test scope) ++ b.nodes) b.scope

abbrev pub for_told : Home → Tells → Expr → Tells → Tells → Scope → Told
for_told home first test last body scope =
    let f = first scope in
    let l = last f.scope in
    let b = body l.scope in
    plain (f.nodes ++ (all_nodes (known home test f.scope) ++ (l.nodes ++ b.nodes))) (closed scope b.scope)

-- one level of a statement
abbrev pub told_step : Home → StmtForm-F Tells Tells → Tells
told_step home (st.Block items) scope = block_told items scope
told_step home st.Empty scope = plain [] scope
told_step home (st.Local of name value) scope = local_told home of name value scope
told_step home (st.Assign place value) scope = assign_told home place value scope
told_step home (st.Compound name sign value) scope = change_told name (all_nodes (known home value scope)) scope
told_step home (st.Up name) scope = change_told name [] scope
told_step home (st.Down name) scope = change_told name [] scope
told_step home (st.Call x) scope = value_told home x scope
told_step home (st.If test branch other) scope = if_told home test branch other scope
told_step home (st.While test body) scope = while_told home test body scope
told_step home (st.For first test last body) scope = for_told home first test last body scope
told_step home (st.Return value) scope = return_told home value scope
told_step home (st.Print value) scope = value_told home value scope

abbrev pub whole : Stmt-F Tells Tells → Tells
whole x = x.form

unfoldable pub told : Home → Stmt → Tells
told home = fold-Stmt Tells Tells (told_step home) whole
