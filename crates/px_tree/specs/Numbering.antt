-- Numbers of statements and expressions, in the order of the text, an outer one before an inner one.
use Rattle.std.specs.Prelude.{ℕ, ◌+◌, List, [], ◌∷◌, Option, Some, None, option_map, map}
use Rattle.px_tree.specs.declared.Expr.{Expr, Expr-F, fold-Expr}
use Rattle.px_tree.specs.declared.ExprForm.{ExprForm, ExprForm-F, fold-ExprForm}
use Rattle.px_tree.specs.declared.ExprForm.TheVariants.{Number, Str, True, False, Null, This, Name, Group, Field, Index, Call, NewObject, NewArray, Prefix, Binary}
use Rattle.px_tree.specs.declared.ExprForm.TheOpen.{ExprForm-F as e}
use Rattle.px_tree.specs.declared.Stmt.{Stmt, Stmt-F, fold-Stmt}
use Rattle.px_tree.specs.declared.StmtForm.{StmtForm, StmtForm-F, fold-StmtForm}
use Rattle.px_tree.specs.declared.StmtForm.TheVariants.{Block, Empty, Local, Assign, Compound, Up, Down, Call as CallStmt, If, While, For, Return, Print}
use Rattle.px_tree.specs.declared.StmtForm.TheOpen.{StmtForm-F as s}
use Rattle.px_tree.specs.declared.Member.{Member}
use Rattle.px_tree.specs.declared.Member.TheVariants as member
use Rattle.px_tree.specs.declared.Class.{Class}

-- from its first number a numbered tree, and the number after its last
abbrev pub Numbering : Type 0 → Type 0
Numbering A = ℕ → A × ℕ

infixl 10 ◌>>=◌
abbrev pub ◌>>=◌ : {A B : Type 0} → Numbering A → (A → Numbering B) → Numbering B
p >>= f = λ n. f (p n).0 (p n).1

abbrev pub pure : {A : Type 0} → A → Numbering A
pure a = λ n. (a, n)

-- the next number
abbrev pub fresh : Numbering ℕ
fresh = λ n. (n, n + 1)

abbrev pub in_order : {A : Type 0} → List (Numbering A) → Numbering (List A)
in_order [] = pure []
in_order (x ∷ xs) = do
  y ← x
  ys ← in_order xs
  pure (y ∷ ys)

abbrev pub number_if : {A : Type 0} → Option (Numbering A) → Numbering (Option A)
number_if None = pure None
number_if (Some x) = do
  y ← x
  pure (Some y)

abbrev pub number_expression_form : ExprForm-F (Numbering ExprForm) (Numbering Expr) → Numbering ExprForm
number_expression_form (e.Number digits long) = pure (Number digits long)
number_expression_form (e.Str bytes) = pure (Str bytes)
number_expression_form e.True = pure True
number_expression_form e.False = pure False
number_expression_form e.Null = pure Null
number_expression_form e.This = pure This
number_expression_form (e.Name name) = pure (Name name)
number_expression_form (e.Group inner) = do
  x ← inner
  pure (Group x)
number_expression_form (e.Field of name) = do
  x ← of
  pure (Field x name)
number_expression_form (e.Index of index) = do
  x ← of
  y ← index
  pure (Index x y)
number_expression_form (e.Call of name args) = do
  x ← number_if of
  ys ← in_order args
  pure (Call x name ys)
number_expression_form (e.NewObject name) = pure (NewObject name)
number_expression_form (e.NewArray base size) = do
  x ← size
  pure (NewArray base x)
number_expression_form (e.Prefix sign operand) = do
  x ← operand
  pure (Prefix sign x)
number_expression_form (e.Binary sign at left right) = do
  l ← left
  r ← right
  pure (Binary sign at l r)

abbrev pub number_expression : Expr-F (Numbering ExprForm) (Numbering Expr) → Numbering Expr
number_expression x = do
  n ← fresh
  form ← x.form
  pure (record { id = n; token = x.token; form = form })

unfoldable pub numbered_expression : Expr → Numbering Expr
numbered_expression = fold-Expr (Numbering ExprForm) (Numbering Expr) number_expression_form number_expression

unfoldable pub numbered_expression_form : ExprForm → Numbering ExprForm
numbered_expression_form = fold-ExprForm (Numbering ExprForm) (Numbering Expr) number_expression_form number_expression

-- ---- statements

abbrev pub number_returned : Option Expr → Numbering (Option Expr)
number_returned value = number_if (option_map numbered_expression value)

abbrev pub number_statement_form : StmtForm-F (Numbering StmtForm) (Numbering Stmt) → Numbering StmtForm
number_statement_form (s.Block items) = do
  xs ← in_order items
  pure (Block xs)
number_statement_form s.Empty = pure Empty
number_statement_form (s.Local ty name value) = do
  x ← numbered_expression value
  pure (Local ty name x)
number_statement_form (s.Assign place value) = do
  p ← numbered_expression place
  x ← numbered_expression value
  pure (Assign p x)
number_statement_form (s.Compound name sign value) = do
  x ← numbered_expression value
  pure (Compound name sign x)
number_statement_form (s.Up name) = pure (Up name)
number_statement_form (s.Down name) = pure (Down name)
number_statement_form (s.Call call) = do
  x ← numbered_expression call
  pure (CallStmt x)
number_statement_form (s.If test then_part else_part) = do
  t ← numbered_expression test
  x ← then_part
  y ← number_if else_part
  pure (If t x y)
number_statement_form (s.While test body) = do
  t ← numbered_expression test
  b ← body
  pure (While t b)
number_statement_form (s.For first test last body) = do
  f ← first
  t ← numbered_expression test
  l ← last
  b ← body
  pure (For f t l b)
number_statement_form (s.Return value) = do
  x ← number_returned value
  pure (Return x)
number_statement_form (s.Print value) = do
  x ← numbered_expression value
  pure (Print x)

abbrev pub number_statement : Stmt-F (Numbering StmtForm) (Numbering Stmt) → Numbering Stmt
number_statement x = do
  n ← fresh
  form ← x.form
  pure (record { id = n; token = x.token; form = form })

unfoldable pub numbered_statement : Stmt → Numbering Stmt
numbered_statement = fold-Stmt (Numbering StmtForm) (Numbering Stmt) number_statement_form number_statement

unfoldable pub numbered_statement_form : StmtForm → Numbering StmtForm
numbered_statement_form = fold-StmtForm (Numbering StmtForm) (Numbering Stmt) number_statement_form number_statement

-- ---- members

abbrev pub numbered_member : Member → Numbering Member
numbered_member (member.Field field) = pure (member.Field field)
numbered_member (member.Method method) = do
  body ← numbered_statement method.body
  pure (member.Method (record method { body = body }))

abbrev pub numbered_class : Class → Numbering Class
numbered_class class = do
  members ← in_order (map numbered_member class.members)
  pure (record class { members = members })

-- The classes with their numbers, from 0 on.
abbrev pub numbered_classes : List Class → List Class
numbered_classes classes = (in_order (map numbered_class classes) 0).0
