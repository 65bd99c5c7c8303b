-- A statement makes no more than it has parts.
use Rattle.std.proofs.Common.{◌≡◌, ℕ, ◌+◌, ◌≤◌, List, [], ◌∷◌, ◌++◌, length, length-append, map, Option, Some, None, sym, subst, arith}
use Rattle.px_value.specs.declared.header.Kind.{Kind}
use Rattle.px_tree.specs.declared.Expr.{Expr, Expr-F, fold-roll-Expr, ind-Expr, roll-Expr, map-Expr}
use Rattle.px_tree.specs.declared.ExprForm.{ExprForm, ExprForm-F, fold-ExprForm, fold-roll-ExprForm, roll-ExprForm, map-ExprForm}
use Rattle.px_tree.specs.declared.ExprForm.TheOpen.{ExprForm-F as f}
use Rattle.px_tree.specs.declared.Stmt.{Stmt, Stmt-F, fold-roll-Stmt, ind-Stmt, roll-Stmt, map-Stmt}
use Rattle.px_tree.specs.declared.StmtForm.{StmtForm, StmtForm-F, fold-StmtForm, fold-roll-StmtForm, roll-StmtForm, map-StmtForm}
use Rattle.px_tree.specs.declared.StmtForm.TheOpen.{StmtForm-F as g}
use Rattle.px_facts.specs.declared.checked.Facts.{Facts}
use Rattle.px_lowering.specs.declared.allocations.Allocation.{Allocation}
use Rattle.px_lowering.specs.Allocations.{one_of, one_at, all_of, inner, here, in_expression, statement_step, in_statement}
use Rattle.px_lowering.specs.Statements.{whole}
use Rattle.px_mean.specs.Facts.{type_at, named_at}
use Rattle.px_lowering.specs.Allocations.{kind_of}
use Rattle.px_typed_code.specs.Sizes.{total, inner as inner_parts, with_itself, expressions, with_statement, size}

abbrev A : Type 0
A = List Allocation

one_many : (k : Option Kind) (token method : ℕ) → length (one_of k token method) ≤ 1
one_many None token method = omega arith
one_many (Some k) token method = omega arith

both_many : (xs ys : A) (n m : ℕ) → length xs ≤ n → length ys ≤ m → length (xs ++ ys) ≤ n + m
both_many xs ys n m h k = omega (arith, length-append xs ys, h, k)

one_more : (n m : ℕ) → n ≤ m → n ≤ 1 + m
one_more n m h = omega (arith, h)

none_many : 0 ≤ 0
none_many = omega arith

module _ (F : Facts) (m : ℕ) where
  -- ---- expressions

  abbrev found : Expr → A
  found = in_expression F m

  abbrev form_found : ExprForm → A
  form_found = fold-ExprForm A A inner (here F m)

  abbrev form_parts : ExprForm → ℕ
  form_parts = fold-ExprForm ℕ ℕ inner_parts with_itself

  abbrev PE : Expr → Type 0
  PE x = length (found x) ≤ expressions x

  abbrev PF : ExprForm → Type 0
  PF x = length (form_found x) ≤ form_parts x

  args_many : (args : List ((a : Expr) × PE a)) → length (all_of (map found (map (λ p. p.0) args))) ≤ total (map expressions (map (λ p. p.0) args))
  args_many [] = none_many
  args_many (x ∷ args) = both_many (found x.0) (all_of (map found (map (λ p. p.0) args))) (expressions x.0) (total (map expressions (map (λ p. p.0) args))) x.1 (args_many args)

  abbrev Open : ExprForm-F ExprForm Expr → Type 0
  Open x = length (inner (map-ExprForm ExprForm Expr A A form_found found x)) ≤ inner_parts (map-ExprForm ExprForm Expr ℕ ℕ form_parts expressions x)

  closed : (x : ExprForm-F ExprForm Expr) → Open x → PF (roll-ExprForm x)
  unfolding in_expression expressions
  closed x h = subst (λ (k : ℕ). length (form_found (roll-ExprForm x)) ≤ k) (sym (fold-roll-ExprForm ℕ ℕ inner_parts with_itself x)) (subst (λ (k : A). length k ≤ inner_parts (map-ExprForm ExprForm Expr ℕ ℕ form_parts expressions x)) (sym (fold-roll-ExprForm A A inner (here F m) x)) h)

  abbrev first_form : ((a : ExprForm) × PF a) → ExprForm
  first_form p = p.0

  abbrev first_expr : ((a : Expr) × PE a) → Expr
  first_expr p = p.0

  opened : (y : ExprForm-F ((a : ExprForm) × PF a) ((a : Expr) × PE a)) → Open (map-ExprForm ((a : ExprForm) × PF a) ((a : Expr) × PE a) ExprForm Expr first_form first_expr y)
  opened (f.Number digits long) = none_many
  opened (f.Str bytes) = none_many
  opened f.True = none_many
  opened f.False = none_many
  opened f.Null = none_many
  opened f.This = none_many
  opened (f.Name n) = none_many
  opened (f.Group x) = x.1
  opened (f.Field x n) = x.1
  opened (f.Index x i) = both_many (found x.0) (found i.0) (expressions x.0) (expressions i.0) x.1 i.1
  opened (f.Call None n args) = both_many [] (all_of (map found (map first_expr args))) 0 (total (map expressions (map first_expr args))) none_many (args_many args)
  opened (f.Call (Some x) n args) = both_many (found x.0) (all_of (map found (map first_expr args))) (expressions x.0) (total (map expressions (map first_expr args))) x.1 (args_many args)
  opened (f.NewObject n) = none_many
  opened (f.NewArray b x) = x.1
  opened (f.Prefix s x) = x.1
  opened (f.Binary s at l r) = both_many (found l.0) (found r.0) (expressions l.0) (expressions r.0) l.1 r.1

  of_form : (x : ExprForm-F ExprForm Expr) (y : ExprForm-F ((a : ExprForm) × PF a) ((a : Expr) × PE a)) → map-ExprForm ((a : ExprForm) × PF a) ((a : Expr) × PE a) ExprForm Expr first_form first_expr y ≡ x → PF (roll-ExprForm x)
  of_form x y e = subst (λ (w : ExprForm-F ExprForm Expr). PF (roll-ExprForm w)) e (closed (map-ExprForm ((a : ExprForm) × PF a) ((a : Expr) × PE a) ExprForm Expr first_form first_expr y) (opened y))

  of_expr : (x : Expr-F ExprForm Expr) (y : Expr-F ((a : ExprForm) × PF a) ((a : Expr) × PE a)) → map-Expr ((a : ExprForm) × PF a) ((a : Expr) × PE a) ExprForm Expr first_form first_expr y ≡ x → PE (roll-Expr x)
  unfolding in_expression expressions
  of_expr x y e =
      let w = map-Expr ((a : ExprForm) × PF a) ((a : Expr) × PE a) ExprForm Expr first_form first_expr y in
      let a : found (roll-Expr w) ≡ one_at F m y.id y.token ++ form_found y.form.0 = fold-roll-Expr A A inner (here F m) w in
      let b : expressions (roll-Expr w) ≡ 1 + form_parts y.form.0 = fold-roll-Expr ℕ ℕ inner_parts with_itself w in
      subst (λ (v : Expr-F ExprForm Expr). PE (roll-Expr v)) e
      (subst (λ (k : ℕ). length (found (roll-Expr w)) ≤ k) (sym b) (subst (λ (k : A). length k ≤ 1 + form_parts y.form.0) (sym a) (both_many (one_at F m y.id y.token) (form_found y.form.0) 1 (form_parts y.form.0) (one_many (kind_of (named_at F y.id) (type_at F y.id)) y.token m) y.form.1)))

  expression_few : (x : Expr) → PE x
  expression_few x = ind-Expr PF PE of_form of_expr x

  -- ---- statements

  abbrev there : Stmt → A
  there = in_statement F m

  abbrev form_there : StmtForm → A
  form_there = fold-StmtForm A A (statement_step found) whole

  abbrev form_size : StmtForm → ℕ
  form_size = fold-StmtForm ℕ ℕ with_statement whole

  abbrev PS : Stmt → Type 0
  PS x = length (there x) ≤ size x

  abbrev PSF : StmtForm → Type 0
  PSF x = length (form_there x) ≤ form_size x

  items_many : (items : List ((a : Stmt) × PS a)) → length (all_of (map there (map (λ p. p.0) items))) ≤ total (map size (map (λ p. p.0) items))
  items_many [] = none_many
  items_many (x ∷ items) = both_many (there x.0) (all_of (map there (map (λ p. p.0) items))) (size x.0) (total (map size (map (λ p. p.0) items))) x.1 (items_many items)

  abbrev OpenStmt : StmtForm-F StmtForm Stmt → Type 0
  OpenStmt x = length (statement_step found (map-StmtForm StmtForm Stmt A A form_there there x)) ≤ with_statement (map-StmtForm StmtForm Stmt ℕ ℕ form_size size x)

  closed_stmt : (x : StmtForm-F StmtForm Stmt) → OpenStmt x → PSF (roll-StmtForm x)
  unfolding in_statement size
  closed_stmt x h = subst (λ (k : ℕ). length (form_there (roll-StmtForm x)) ≤ k) (sym (fold-roll-StmtForm ℕ ℕ with_statement whole x)) (subst (λ (k : A). length k ≤ with_statement (map-StmtForm StmtForm Stmt ℕ ℕ form_size size x)) (sym (fold-roll-StmtForm A A (statement_step found) whole x)) h)

  abbrev first_stmt_form : ((a : StmtForm) × PSF a) → StmtForm
  first_stmt_form p = p.0

  abbrev first_stmt : ((a : Stmt) × PS a) → Stmt
  first_stmt p = p.0

  nothing_more : 0 ≤ 1
  nothing_more = omega arith

  opened_stmt : (y : StmtForm-F ((a : StmtForm) × PSF a) ((a : Stmt) × PS a)) → OpenStmt (map-StmtForm ((a : StmtForm) × PSF a) ((a : Stmt) × PS a) StmtForm Stmt first_stmt_form first_stmt y)
  opened_stmt (g.Block items) = one_more _ _ (items_many items)
  opened_stmt g.Empty = nothing_more
  opened_stmt (g.Local t n x) = one_more _ _ (expression_few x)
  opened_stmt (g.Assign p x) = one_more _ _ (both_many (found p) (found x) (expressions p) (expressions x) (expression_few p) (expression_few x))
  opened_stmt (g.Compound n s x) = one_more _ _ (expression_few x)
  opened_stmt (g.Up n) = nothing_more
  opened_stmt (g.Down n) = nothing_more
  opened_stmt (g.Call x) = one_more _ _ (expression_few x)
  opened_stmt (g.If test a None) = one_more _ _ (both_many (found test) (there a.0 ++ []) (expressions test) (size a.0 + 0) (expression_few test) (both_many (there a.0) [] (size a.0) 0 a.1 none_many))
  opened_stmt (g.If test a (Some b)) = one_more _ _ (both_many (found test) (there a.0 ++ there b.0) (expressions test) (size a.0 + size b.0) (expression_few test) (both_many (there a.0) (there b.0) (size a.0) (size b.0) a.1 b.1))
  opened_stmt (g.While test body) = one_more _ _ (both_many (found test) (there body.0) (expressions test) (size body.0) (expression_few test) body.1)
  opened_stmt (g.For begin test last body) = one_more _ _ (both_many (there begin.0) (found test ++ (there last.0 ++ there body.0)) (size begin.0) (expressions test + (size last.0 + size body.0)) begin.1 (both_many (found test) (there last.0 ++ there body.0) (expressions test) (size last.0 + size body.0) (expression_few test) (both_many (there last.0) (there body.0) (size last.0) (size body.0) last.1 body.1)))
  opened_stmt (g.Return None) = nothing_more
  opened_stmt (g.Return (Some x)) = one_more _ _ (expression_few x)
  opened_stmt (g.Print x) = one_more _ _ (expression_few x)

  of_stmt_form : (x : StmtForm-F StmtForm Stmt) (y : StmtForm-F ((a : StmtForm) × PSF a) ((a : Stmt) × PS a)) → map-StmtForm ((a : StmtForm) × PSF a) ((a : Stmt) × PS a) StmtForm Stmt first_stmt_form first_stmt y ≡ x → PSF (roll-StmtForm x)
  of_stmt_form x y e = subst (λ (w : StmtForm-F StmtForm Stmt). PSF (roll-StmtForm w)) e (closed_stmt (map-StmtForm ((a : StmtForm) × PSF a) ((a : Stmt) × PS a) StmtForm Stmt first_stmt_form first_stmt y) (opened_stmt y))

  of_stmt : (x : Stmt-F StmtForm Stmt) (y : Stmt-F ((a : StmtForm) × PSF a) ((a : Stmt) × PS a)) → map-Stmt ((a : StmtForm) × PSF a) ((a : Stmt) × PS a) StmtForm Stmt first_stmt_form first_stmt y ≡ x → PS (roll-Stmt x)
  unfolding in_statement size
  of_stmt x y e =
      let w = map-Stmt ((a : StmtForm) × PSF a) ((a : Stmt) × PS a) StmtForm Stmt first_stmt_form first_stmt y in
      let a : there (roll-Stmt w) ≡ form_there y.form.0 = fold-roll-Stmt A A (statement_step found) whole w in
      let b : size (roll-Stmt w) ≡ form_size y.form.0 = fold-roll-Stmt ℕ ℕ with_statement whole w in
      subst (λ (v : Stmt-F StmtForm Stmt). PS (roll-Stmt v)) e
      (subst (λ (k : ℕ). length (there (roll-Stmt w)) ≤ k) (sym b) (subst (λ (k : A). length k ≤ form_size y.form.0) (sym a) y.form.1))

  pub statement_makes_few : (x : Stmt) → PS x
  statement_makes_few x = ind-Stmt PSF PS of_stmt_form of_stmt x
