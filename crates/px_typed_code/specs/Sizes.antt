-- How many slots a method has at most.
use Rattle.std.specs.Prelude.{◌≡◌, ℕ, ◌+◌, ◌≤◌, List, [], ◌∷◌, length, Option, Some, None, option_map}
use Rattle.px_tree.specs.declared.Expr.{Expr, Expr-F, fold-Expr}
use Rattle.px_tree.specs.declared.ExprForm.{ExprForm-F}
use Rattle.px_tree.specs.declared.ExprForm.TheOpen.{ExprForm-F as e}
use Rattle.px_tree.specs.declared.Stmt.{Stmt, fold-Stmt}
use Rattle.px_tree.specs.declared.StmtForm.{StmtForm-F}
use Rattle.px_tree.specs.declared.StmtForm.TheOpen.{StmtForm-F as st}
use Rattle.px_tree.specs.declared.Method.{Method}
use Rattle.px_tree.specs.declared.Class.{Class}
use Rattle.px_facts.specs.declared.checked.Checked.{Checked}
use Rattle.px_facts.specs.declared.checked.MethodFact.{MethodFact}
use Rattle.px_mean.specs.Facts.{by_number}
use Rattle.px_mean.specs.Program.{methods_of, source_from}
use Rattle.px_mean.specs.Typing.{IsTyped as IsTypedSource}
use Rattle.px_normal.specs.declared.method.Method.{Method as CodeMethod}
use Rattle.px_normal.specs.First.{numbered}
use Rattle.px_lowering.specs.Statements.{whole}
use Rattle.px_lowering.specs.Programs.{lowered}
use Rattle.px_preservation.specs.Laws.{fields_in}

abbrev pub total : List ℕ → ℕ
total [] = 0
total (n ∷ ns) = n + total ns

abbrev pub if_any : Option ℕ → ℕ
if_any None = 0
if_any (Some n) = n

-- how many expressions there are in one, with itself
abbrev pub inner : ExprForm-F ℕ ℕ → ℕ
inner (e.Group x) = x
inner (e.Field x n) = x
inner (e.Index x i) = x + i
inner (e.Call of n args) = if_any of + total args
inner (e.NewArray b x) = x
inner (e.Prefix s x) = x
inner (e.Binary s at l r) = l + r
inner _ = 0

abbrev pub with_itself : Expr-F ℕ ℕ → ℕ
with_itself x = 1 + x.form

unfoldable pub expressions : Expr → ℕ
expressions = fold-Expr ℕ ℕ inner with_itself

-- how many there are in a statement
abbrev pub step : StmtForm-F ℕ ℕ → ℕ
step (st.Block items) = total items
step (st.Local t n x) = expressions x
step (st.Assign p x) = expressions p + expressions x
step (st.Compound n s x) = expressions x
step (st.Call x) = expressions x
step (st.If test branch other) = expressions test + (branch + if_any other)
step (st.While test body) = expressions test + body
step (st.For begin test last body) = begin + (expressions test + (last + body))
step (st.Return x) = if_any (option_map expressions x)
step (st.Print x) = expressions x
step _ = 0

unfoldable pub parts : Stmt → ℕ
parts = fold-Stmt ℕ ℕ step whole

-- and with the statements in it, and itself
abbrev pub with_statement : StmtForm-F ℕ ℕ → ℕ
with_statement x = 1 + step x

unfoldable pub size : Stmt → ℕ
size = fold-Stmt ℕ ℕ with_statement whole

-- A method has a slot for `this`, for each parameter and each local, and at most two for each expression: its value, and that as a long.
abbrev pub FewSlots : Type 0
FewSlots = (P : Checked) → IsTypedSource (source_from P) → (number : ℕ) (m : Method) (fact : MethodFact) (method : CodeMethod) → by_number (methods_of P.program.classes) number ≡ Some m → by_number P.facts.methods number ≡ Some fact → numbered (lowered P).methods number ≡ Some method → length method.slots ≤ length fact.slots + (parts m.body + parts m.body)

-- ---- nodes

abbrev pub all_sizes : List Method → ℕ
all_sizes [] = 0
all_sizes (m ∷ ms) = size m.body + all_sizes ms

abbrev pub all_fields : List Class → ℕ
all_fields [] = 0
all_fields (c ∷ cs) = length (fields_in c.members) + all_fields cs

abbrev pub fourfold : ℕ → ℕ
fourfold n = (n + n) + (n + n)

-- A method has a node, and one where its end is reached; a statement or an expression has at most four, and one more as a site; a field has one.
abbrev pub FewNodes : Type 0
FewNodes = (P : Checked) → IsTypedSource (source_from P) → length (lowered P).nodes ≤ (length (methods_of P.program.classes) + length (methods_of P.program.classes)) + (fourfold (all_sizes (methods_of P.program.classes)) + (all_fields P.program.classes + all_sizes (methods_of P.program.classes)))
