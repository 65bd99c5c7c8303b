-- How many nodes a tree has, for the measures of functions that walk it.
use Rattle.std.proofs.Common.{◌≡◌, ℕ, ◌+◌, List, [], ◌∷◌, ◌++◌, map, reverse, Option, Some, None, option_map, refl, sym, ap, ◌∙◌, arith}
use Rattle.std.proofs.lemmas.List.{reverse-append}
use Rattle.px_tree.specs.declared.Sign.{Sign}
use Rattle.px_tree.specs.declared.Base.{Base}
use Rattle.px_tree.specs.declared.Name.{Name as NameData}
use Rattle.px_tree.specs.declared.Expr.{Expr, fold-Expr, fold_out-Expr}
use Rattle.px_tree.specs.declared.ExprForm.{ExprForm, ExprForm-F, fold-ExprForm, fold-roll-ExprForm, roll-ExprForm, map-ExprForm}
use Rattle.px_tree.specs.declared.ExprForm.TheVariants.{Group, Field, Index, Call, NewArray, Prefix, Binary, rolls-Group, rolls-Field, rolls-Index, rolls-Call, rolls-NewArray, rolls-Prefix, rolls-Binary}
use Rattle.px_tree.specs.declared.ExprForm.TheOpen.{ExprForm-F as e}
use Rattle.px_tree.specs.declared.Stmt.{Stmt, fold-Stmt, fold_out-Stmt}
use Rattle.px_tree.specs.declared.StmtForm.{StmtForm, StmtForm-F, fold-StmtForm, fold-roll-StmtForm, roll-StmtForm, map-StmtForm}
use Rattle.px_tree.specs.declared.StmtForm.TheVariants.{Block, If, While, For, rolls-Block, rolls-If, rolls-While, rolls-For}
use Rattle.px_tree.specs.declared.StmtForm.TheOpen.{StmtForm-F as s}

abbrev pub total : List ℕ → ℕ
total [] = 0
total (n ∷ ns) = n + total ns

abbrev pub size_if : Option ℕ → ℕ
size_if None = 0
size_if (Some n) = n

-- ---- expressions

abbrev size_form : ExprForm-F ℕ ℕ → ℕ
size_form (e.Group inner) = inner
size_form (e.Field of name) = of
size_form (e.Index of index) = of + index
size_form (e.Call of name args) = size_if of + total args
size_form (e.NewArray base size) = size
size_form (e.Prefix sign operand) = operand
size_form (e.Binary sign at left right) = left + right
size_form _ = 0

unfoldable pub size_of : Expr → ℕ
size_of = fold-Expr ℕ ℕ size_form (λ x. x.form + 1)

unfoldable pub size_of_form : ExprForm → ℕ
size_of_form = fold-ExprForm ℕ ℕ size_form (λ x. x.form + 1)

pub size_of_its_form : (x : Expr) → size_of x ≡ size_of_form x.form + 1
unfolding size_of size_of_form
size_of_its_form x = fold_out-Expr ℕ ℕ size_form (λ y. y.form + 1) x

at_form : (x : ExprForm-F ExprForm Expr) (form : ExprForm) → form ≡ roll-ExprForm x → size_of_form form ≡ size_form (map-ExprForm ExprForm Expr ℕ ℕ size_of_form size_of x)
unfolding size_of size_of_form
at_form x form h = ap size_of_form h ∙ fold-roll-ExprForm ℕ ℕ size_form (λ y. y.form + 1) x

pub group_size : (inner : Expr) → size_of_form (Group inner) ≡ size_of inner
group_size inner = at_form (e.Group inner) _ (sym (rolls-Group inner))

pub field_size : (of : Expr) (name : NameData) → size_of_form (Field of name) ≡ size_of of
field_size of name = at_form (e.Field of name) _ (sym (rolls-Field of name))

pub index_size : (of index : Expr) → size_of_form (Index of index) ≡ size_of of + size_of index
index_size of index = at_form (e.Index of index) _ (sym (rolls-Index of index))

pub call_size : (of : Option Expr) (name : NameData) (args : List Expr) → size_of_form (Call of name args) ≡ size_if (option_map size_of of) + total (map size_of args)
call_size None name args = at_form (e.Call None name args) _ (sym (rolls-Call None name args))
call_size (Some of) name args = at_form (e.Call (Some of) name args) _ (sym (rolls-Call (Some of) name args))

pub array_size : (base : Base) (size : Expr) → size_of_form (NewArray base size) ≡ size_of size
array_size base size = at_form (e.NewArray base size) _ (sym (rolls-NewArray base size))

pub prefix_size : (sign : Sign) (operand : Expr) → size_of_form (Prefix sign operand) ≡ size_of operand
prefix_size sign operand = at_form (e.Prefix sign operand) _ (sym (rolls-Prefix sign operand))

pub binary_size : (sign : Sign) (at : ℕ) (l r : Expr) → size_of_form (Binary sign at l r) ≡ size_of l + size_of r
binary_size sign at l r = at_form (e.Binary sign at l r) _ (sym (rolls-Binary sign at l r))

-- ---- statements

abbrev statement_size_form : StmtForm-F ℕ ℕ → ℕ
statement_size_form (s.Block items) = total items
statement_size_form (s.If test then_part else_part) = then_part + size_if else_part
statement_size_form (s.While test body) = body
statement_size_form (s.For first test last body) = first + last + body
statement_size_form _ = 0

unfoldable pub statement_size : Stmt → ℕ
statement_size = fold-Stmt ℕ ℕ statement_size_form (λ x. x.form + 1)

unfoldable pub statement_size_of_form : StmtForm → ℕ
statement_size_of_form = fold-StmtForm ℕ ℕ statement_size_form (λ x. x.form + 1)

pub statement_size_of_its_form : (x : Stmt) → statement_size x ≡ statement_size_of_form x.form + 1
unfolding statement_size statement_size_of_form
statement_size_of_its_form x = fold_out-Stmt ℕ ℕ statement_size_form (λ y. y.form + 1) x

at_statement : (x : StmtForm-F StmtForm Stmt) (form : StmtForm) → form ≡ roll-StmtForm x → statement_size_of_form form ≡ statement_size_form (map-StmtForm StmtForm Stmt ℕ ℕ statement_size_of_form statement_size x)
unfolding statement_size statement_size_of_form
at_statement x form h = ap statement_size_of_form h ∙ fold-roll-StmtForm ℕ ℕ statement_size_form (λ y. y.form + 1) x

pub block_size : (items : List Stmt) → statement_size_of_form (Block items) ≡ total (map statement_size items)
block_size items = at_statement (s.Block items) _ (sym (rolls-Block items))

pub if_size : (test : Expr) (then_part : Stmt) (else_part : Option Stmt) → statement_size_of_form (If test then_part else_part) ≡ statement_size then_part + size_if (option_map statement_size else_part)
if_size test then_part None = at_statement (s.If test then_part None) _ (sym (rolls-If test then_part None))
if_size test then_part (Some else_part) = at_statement (s.If test then_part (Some else_part)) _ (sym (rolls-If test then_part (Some else_part)))

pub while_size : (test : Expr) (body : Stmt) → statement_size_of_form (While test body) ≡ statement_size body
while_size test body = at_statement (s.While test body) _ (sym (rolls-While test body))

pub for_size : (first : Stmt) (test : Expr) (last body : Stmt) → statement_size_of_form (For first test last body) ≡ statement_size first + statement_size last + statement_size body
for_size first test last body = at_statement (s.For first test last body) _ (sym (rolls-For first test last body))

-- ---- lists

pub total_append : {A : Type 0} (f : A → ℕ) (xs ys : List A) → total (map f (xs ++ ys)) ≡ total (map f xs) + total (map f ys)
total_append f [] ys = omega arith
total_append f (x ∷ xs) ys = let h : _ ≡ _ = total_append f xs ys in omega (arith, h)

pub total_reverse : {A : Type 0} (f : A → ℕ) (xs : List A) → total (map f (reverse xs)) ≡ total (map f xs)
total_reverse f [] = refl
total_reverse f (x ∷ xs) =
    ap (λ (ys : List _). total (map f ys)) (reverse-append (x ∷ []) xs) ∙ total_append f (reverse xs) (x ∷ [])
    ∙ (let h : total (map f (reverse xs)) ≡ total (map f xs) = total_reverse f xs in omega (arith, h))

-- all are the last and the rest
pub total_last : {A : Type 0} (f : A → ℕ) (all front : List A) (x : A) → all ≡ front ++ x ∷ [] → total (map f all) ≡ total (map f front) + f x
total_last f all front x h =
    let e : total (map f all) ≡ total (map f front) + total (map f (x ∷ [])) = ap (λ (ys : List _). total (map f ys)) h ∙ total_append f front (x ∷ []) in
    omega (arith, e)
