-- The places where objects, arrays and rows are made, in the order of the text.
use Rattle.std.specs.Prelude.{ℕ, List, [], ◌∷◌, ◌++◌, Option, Some, None, option_map}
use Rattle.px_value.specs.declared.header.Kind.{Kind}
use Rattle.px_value.specs.declared.header.Kind.TheVariants as kind
use Rattle.px_tree.specs.declared.Expr.{Expr, Expr-F, fold-Expr}
use Rattle.px_tree.specs.declared.ExprForm.{ExprForm-F}
use Rattle.px_tree.specs.declared.ExprForm.TheOpen.{ExprForm-F as e}
use Rattle.px_tree.specs.declared.Stmt.{Stmt, fold-Stmt}
use Rattle.px_tree.specs.declared.StmtForm.{StmtForm-F}
use Rattle.px_tree.specs.declared.StmtForm.TheOpen.{StmtForm-F as st}
use Rattle.px_facts.specs.declared.types.Ty.{Ty as Static}
use Rattle.px_facts.specs.declared.types.Ty.TheVariants as static
use Rattle.px_facts.specs.declared.checked.Facts.{Facts}
use Rattle.px_facts.specs.declared.checked.Named.{Named}
use Rattle.px_facts.specs.declared.checked.Named.TheVariants as named
use Rattle.px_mean.specs.Facts.{type_at, named_at, element_number}
use Rattle.px_lowering.specs.declared.allocations.Allocation.{Allocation}
use Rattle.px_lowering.specs.Statements.{whole}

abbrev pub kind_of : Named → Static → Option Kind
kind_of (named.NewObject class site) t = Some (kind.Object class)
kind_of (named.NewArray site) (static.Array element) = Some (kind.Array (element_number element))
kind_of (named.Query number site) t = Some (kind.Rows number)
kind_of _ t = None

abbrev pub one_of : Option Kind → (token method : ℕ) → List Allocation
one_of None token method = []
one_of (Some k) token method = record { kind = k; token = token; method = method } ∷ []

abbrev pub all_of : List (List Allocation) → List Allocation
all_of [] = []
all_of (xs ∷ more) = xs ++ all_of more

abbrev pub if_any : Option (List Allocation) → List Allocation
if_any None = []
if_any (Some xs) = xs

-- those of the parts of an expression
abbrev pub inner : ExprForm-F (List Allocation) (List Allocation) → List Allocation
inner (e.Group x) = x
inner (e.Field x n) = x
inner (e.Index x i) = x ++ i
inner (e.Call of n args) = if_any of ++ all_of args
inner (e.NewArray b x) = x
inner (e.Prefix s x) = x
inner (e.Binary s at l r) = l ++ r
inner _ = []

-- what the expression of this number and this first token itself allocates
abbrev pub one_at : Facts → (method id token : ℕ) → List Allocation
one_at F method id token = one_of (kind_of (named_at F id) (type_at F id)) token method

-- an outer expression before an inner one, as they are numbered
abbrev pub here : Facts → ℕ → Expr-F (List Allocation) (List Allocation) → List Allocation
here F method x = one_at F method x.id x.token ++ x.form

unfoldable pub in_expression : Facts → ℕ → Expr → List Allocation
in_expression F method = fold-Expr (List Allocation) (List Allocation) inner (here F method)

-- of what those of an expression are
abbrev pub statement_step : (Expr → List Allocation) → StmtForm-F (List Allocation) (List Allocation) → List Allocation
statement_step f (st.Block items) = all_of items
statement_step f (st.Local t n x) = f x
statement_step f (st.Assign p x) = f p ++ f x
statement_step f (st.Compound n s x) = f x
statement_step f (st.Call x) = f x
statement_step f (st.If test branch other) = f test ++ (branch ++ if_any other)
statement_step f (st.While test body) = f test ++ body
statement_step f (st.For begin test last body) = begin ++ (f test ++ (last ++ body))
statement_step f (st.Return x) = if_any (option_map f x)
statement_step f (st.Print x) = f x
statement_step f _ = []

unfoldable pub in_statement : Facts → ℕ → Stmt → List Allocation
in_statement F method = fold-Stmt (List Allocation) (List Allocation) (statement_step (in_expression F method)) whole
