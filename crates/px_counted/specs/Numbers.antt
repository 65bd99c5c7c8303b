-- How often a number is given to a statement or an expression.
use Rattle.std.specs.Prelude.{ℕ, ◌+◌, ◌≤◌, nat_eq, if◌then◌else◌, List, [], ◌∷◌, Option, Some, None, option_map}
use Rattle.px_tree.specs.declared.Expr.{Expr, Expr-F, fold-Expr}
use Rattle.px_tree.specs.declared.ExprForm.{ExprForm-F}
use Rattle.px_tree.specs.declared.ExprForm.TheOpen.{ExprForm-F as e}
use Rattle.px_tree.specs.declared.Stmt.{Stmt, Stmt-F, fold-Stmt}
use Rattle.px_tree.specs.declared.StmtForm.{StmtForm-F}
use Rattle.px_tree.specs.declared.StmtForm.TheOpen.{StmtForm-F as st}
use Rattle.px_tree.specs.declared.Method.{Method}
use Rattle.px_facts.specs.declared.checked.Checked.{Checked}
use Rattle.px_mean.specs.Program.{methods_of}

abbrev pub all_of : List ℕ → ℕ
all_of [] = 0
all_of (n ∷ ns) = n + all_of ns

abbrev pub if_any : Option ℕ → ℕ
if_any None = 0
if_any (Some n) = n

-- 1 for the same number
abbrev pub one_if : ℕ → ℕ → ℕ
one_if number id = if nat_eq number id then 1 else 0

-- of how often it is given in the parts of an expression
abbrev pub in_parts : ExprForm-F ℕ ℕ → ℕ
in_parts (e.Group x) = x
in_parts (e.Field x n) = x
in_parts (e.Index x i) = x + i
in_parts (e.Call of n args) = if_any of + all_of args
in_parts (e.NewArray b x) = x
in_parts (e.Prefix s x) = x
in_parts (e.Binary s at l r) = l + r
in_parts _ = 0

abbrev pub with_own : ℕ → Expr-F ℕ ℕ → ℕ
with_own number x = one_if number x.id + x.form

unfoldable pub given : ℕ → Expr → ℕ
given number = fold-Expr ℕ ℕ in_parts (with_own number)

abbrev pub in_statement_parts : (Expr → ℕ) → StmtForm-F ℕ ℕ → ℕ
in_statement_parts f (st.Block items) = all_of items
in_statement_parts f (st.Local t n x) = f x
in_statement_parts f (st.Assign p x) = f p + f x
in_statement_parts f (st.Compound n s x) = f x
in_statement_parts f (st.Call x) = f x
in_statement_parts f (st.If test branch other) = f test + (branch + if_any other)
in_statement_parts f (st.While test body) = f test + body
in_statement_parts f (st.For begin test last body) = begin + (f test + (last + body))
in_statement_parts f (st.Return x) = if_any (option_map f x)
in_statement_parts f (st.Print x) = f x
in_statement_parts f _ = 0

abbrev pub with_own_statement : ℕ → Stmt-F ℕ ℕ → ℕ
with_own_statement number x = one_if number x.id + x.form

unfoldable pub given_statement : ℕ → Stmt → ℕ
given_statement number = fold-Stmt ℕ ℕ (in_statement_parts (given number)) (with_own_statement number)

abbrev pub given_methods : ℕ → List Method → ℕ
given_methods number [] = 0
given_methods number (m ∷ ms) = given_statement number m.body + given_methods number ms

-- No two statements or expressions of a program have the same number.
abbrev pub AreNumbered : Checked → Type 0
AreNumbered P = (number : ℕ) → given_methods number (methods_of P.program.classes) ≤ 1
