-- What each form of an expression and of a statement allocates, as an equation.
use Rattle.std.proofs.Common.{◌≡◌, ℕ, List, [], ◌++◌, append-nil, map, Option, Some, None, option_map, sym, ap, ◌∙◌}
use Rattle.px_tree.specs.declared.Sign.{Sign}
use Rattle.px_tree.specs.declared.Base.{Base}
use Rattle.px_tree.specs.declared.Name.{Name as NameData}
use Rattle.px_tree.specs.declared.TypeName.{TypeName}
use Rattle.px_tree.specs.declared.Expr.{Expr, fold_out-Expr}
use Rattle.px_tree.specs.declared.ExprForm.{ExprForm, ExprForm-F, ind-ExprForm, fold-ExprForm, fold-roll-ExprForm, roll-ExprForm, map-ExprForm}
use Rattle.px_tree.specs.declared.ExprForm.TheVariants.{Group, rolls-Group, Field, rolls-Field, Index, rolls-Index, Call, rolls-Call, NewArray, rolls-NewArray, Prefix, rolls-Prefix, Binary, rolls-Binary}
use Rattle.px_tree.specs.declared.ExprForm.TheOpen.{ExprForm-F as f}
use Rattle.px_tree.specs.declared.Stmt.{Stmt, fold_out-Stmt}
use Rattle.px_tree.specs.declared.StmtForm.{StmtForm, StmtForm-F, fold-StmtForm, fold-roll-StmtForm, roll-StmtForm, map-StmtForm}
use Rattle.px_tree.specs.declared.StmtForm.TheVariants.{Block, rolls-Block, Empty, rolls-Empty, Local, rolls-Local, Assign, rolls-Assign, Compound, rolls-Compound, Up, rolls-Up, Down, rolls-Down, Call as CallStmt, rolls-Call as rolls-CallStmt, If, rolls-If, While, rolls-While, For, rolls-For, Return, rolls-Return, Print, rolls-Print}
use Rattle.px_tree.specs.declared.StmtForm.TheOpen.{StmtForm-F as g}
use Rattle.px_facts.specs.declared.checked.Facts.{Facts}
use Rattle.px_lowering.specs.declared.allocations.Allocation.{Allocation}
use Rattle.px_lowering.specs.Statements.{whole}
use Rattle.px_lowering.specs.Allocations.{all_of, if_any, inner, one_at, here, in_expression, statement_step, in_statement}

abbrev A : Type 0
A = List Allocation

module _ (F : Facts) (m : ℕ) where
  abbrev found : Expr → A
  found = in_expression F m

  abbrev form_found : ExprForm → A
  form_found = fold-ExprForm A A inner (here F m)

  at_form : (e : Expr) (x : ExprForm-F ExprForm Expr) → e.form ≡ roll-ExprForm x → found e ≡ one_at F m e.id e.token ++ inner (map-ExprForm ExprForm Expr A A form_found found x)
  unfolding in_expression
  at_form e x h =
      fold_out-Expr A A inner (here F m) e ∙ ap (λ (k : ExprForm). one_at F m e.id e.token ++ form_found k) h
      ∙ ap (λ (k : A). one_at F m e.id e.token ++ k) (fold-roll-ExprForm A A inner (here F m) x)

  pub found_group : (e x y : Expr) → e.form ≡ Group x → y ≡ x → found e ≡ one_at F m e.id e.token ++ found y
  found_group e x y h u = at_form e (f.Group y) (h ∙ ap Group (sym u) ∙ sym (rolls-Group y))

  pub found_field : (e x y : Expr) (n : NameData) → e.form ≡ Field x n → y ≡ x → found e ≡ one_at F m e.id e.token ++ found y
  found_field e x y n h u = at_form e (f.Field y n) (h ∙ ap (λ (z : Expr). Field z n) (sym u) ∙ sym (rolls-Field y n))

  pub found_index : (e x y k j : Expr) → e.form ≡ Index x k → y ≡ x → j ≡ k → found e ≡ one_at F m e.id e.token ++ (found y ++ found j)
  found_index e x y k j h u v = at_form e (f.Index y j) (h ∙ (λ i. Index (sym u i) (sym v i)) ∙ sym (rolls-Index y j))

  pub found_call : (e : Expr) (of : Option Expr) (n : NameData) (args : List Expr) → e.form ≡ Call of n args → found e ≡ one_at F m e.id e.token ++ (if_any (option_map found of) ++ all_of (map found args))
  found_call e None n args h = at_form e (f.Call None n args) (h ∙ sym (rolls-Call None n args))
  found_call e (Some of) n args h = at_form e (f.Call (Some of) n args) (h ∙ sym (rolls-Call (Some of) n args))

  pub found_new_array : (e x y : Expr) (b : Base) → e.form ≡ NewArray b x → y ≡ x → found e ≡ one_at F m e.id e.token ++ found y
  found_new_array e x y b h u = at_form e (f.NewArray b y) (h ∙ ap (NewArray b) (sym u) ∙ sym (rolls-NewArray b y))

  pub found_prefix : (e x y : Expr) (s : Sign) → e.form ≡ Prefix s x → y ≡ x → found e ≡ one_at F m e.id e.token ++ found y
  found_prefix e x y s h u = at_form e (f.Prefix s y) (h ∙ ap (Prefix s) (sym u) ∙ sym (rolls-Prefix s y))

  pub found_binary : (e l r l' r' : Expr) (s : Sign) (at : ℕ) → e.form ≡ Binary s at l r → l' ≡ l → r' ≡ r → found e ≡ one_at F m e.id e.token ++ (found l' ++ found r')
  found_binary e l r l' r' s at h u v = at_form e (f.Binary s at l' r') (h ∙ (λ i. Binary s at (sym u i) (sym v i)) ∙ sym (rolls-Binary s at l' r'))

  -- the other forms have no parts
  abbrev OfForm : ExprForm → Type 0
  OfForm form = ((x : Expr) → form ≡ Group x → ⊥) → ((x : Expr) (n : NameData) → form ≡ Field x n → ⊥) → ((x j : Expr) → form ≡ Index x j → ⊥) → ((of : Option Expr) (n : NameData) (args : List Expr) → form ≡ Call of n args → ⊥) → ((b : Base) (x : Expr) → form ≡ NewArray b x → ⊥) → ((s : Sign) (x : Expr) → form ≡ Prefix s x → ⊥) → ((s : Sign) (at : ℕ) (l r : Expr) → form ≡ Binary s at l r → ⊥) → form_found form ≡ []

  of_form : (x : ExprForm-F ExprForm Expr) → OfForm (roll-ExprForm x)
  of_form (f.Number digits long) n1 n2 n3 n4 n5 n6 n7 = fold-roll-ExprForm A A inner (here F m) (f.Number digits long)
  of_form (f.Str bytes) n1 n2 n3 n4 n5 n6 n7 = fold-roll-ExprForm A A inner (here F m) (f.Str bytes)
  of_form f.True n1 n2 n3 n4 n5 n6 n7 = fold-roll-ExprForm A A inner (here F m) f.True
  of_form f.False n1 n2 n3 n4 n5 n6 n7 = fold-roll-ExprForm A A inner (here F m) f.False
  of_form f.Null n1 n2 n3 n4 n5 n6 n7 = fold-roll-ExprForm A A inner (here F m) f.Null
  of_form f.This n1 n2 n3 n4 n5 n6 n7 = fold-roll-ExprForm A A inner (here F m) f.This
  of_form (f.Name n) n1 n2 n3 n4 n5 n6 n7 = fold-roll-ExprForm A A inner (here F m) (f.Name n)
  of_form (f.Group e) n1 n2 n3 n4 n5 n6 n7 = absurd (n1 e (rolls-Group e))
  of_form (f.Field e n) n1 n2 n3 n4 n5 n6 n7 = absurd (n2 e n (rolls-Field e n))
  of_form (f.Index e j) n1 n2 n3 n4 n5 n6 n7 = absurd (n3 e j (rolls-Index e j))
  of_form (f.Call of n args) n1 n2 n3 n4 n5 n6 n7 = absurd (n4 of n args (rolls-Call of n args))
  of_form (f.NewObject n) n1 n2 n3 n4 n5 n6 n7 = fold-roll-ExprForm A A inner (here F m) (f.NewObject n)
  of_form (f.NewArray b e) n1 n2 n3 n4 n5 n6 n7 = absurd (n5 b e (rolls-NewArray b e))
  of_form (f.Prefix s e) n1 n2 n3 n4 n5 n6 n7 = absurd (n6 s e (rolls-Prefix s e))
  of_form (f.Binary s at l r) n1 n2 n3 n4 n5 n6 n7 = absurd (n7 s at l r (rolls-Binary s at l r))

  pub found_other : (e : Expr) → ((x : Expr) → e.form ≡ Group x → ⊥) → ((x : Expr) (n : NameData) → e.form ≡ Field x n → ⊥) → ((x j : Expr) → e.form ≡ Index x j → ⊥) → ((of : Option Expr) (n : NameData) (args : List Expr) → e.form ≡ Call of n args → ⊥) → ((b : Base) (x : Expr) → e.form ≡ NewArray b x → ⊥) → ((s : Sign) (x : Expr) → e.form ≡ Prefix s x → ⊥) → ((s : Sign) (at : ℕ) (l r : Expr) → e.form ≡ Binary s at l r → ⊥) → found e ≡ one_at F m e.id e.token
  unfolding in_expression
  found_other e n1 n2 n3 n4 n5 n6 n7 =
      let form : OfForm e.form = ind-ExprForm OfForm (λ x. Unit {0}) (λ x y h. of_form x) (λ x y h. tt) e.form in
      fold_out-Expr A A inner (here F m) e ∙ ap (λ (k : A). one_at F m e.id e.token ++ k) (form n1 n2 n3 n4 n5 n6 n7) ∙ append-nil (one_at F m e.id e.token)

  -- ---- statements

  abbrev there : Stmt → A
  there = in_statement F m

  at_stmt : (s : Stmt) (x : StmtForm-F StmtForm Stmt) → s.form ≡ roll-StmtForm x → there s ≡ statement_step found (map-StmtForm StmtForm Stmt A A (fold-StmtForm A A (statement_step found) whole) there x)
  unfolding in_statement
  at_stmt s x h =
      fold_out-Stmt A A (statement_step found) whole s ∙ ap (fold-StmtForm A A (statement_step found) whole) h
      ∙ fold-roll-StmtForm A A (statement_step found) whole x

  pub found_block : (s : Stmt) (items : List Stmt) → s.form ≡ Block items → there s ≡ all_of (map there items)
  found_block s items h = at_stmt s (g.Block items) (h ∙ sym (rolls-Block items))

  pub found_empty : (s : Stmt) → s.form ≡ Empty → there s ≡ []
  found_empty s h = at_stmt s g.Empty (h ∙ sym rolls-Empty)

  pub found_local : (s : Stmt) (t : TypeName) (n : NameData) (e : Expr) → s.form ≡ Local t n e → there s ≡ found e
  found_local s t n e h = at_stmt s (g.Local t n e) (h ∙ sym (rolls-Local t n e))

  pub found_assign : (s : Stmt) (p e : Expr) → s.form ≡ Assign p e → there s ≡ found p ++ found e
  found_assign s p e h = at_stmt s (g.Assign p e) (h ∙ sym (rolls-Assign p e))

  pub found_compound : (s : Stmt) (n : NameData) (o : Sign) (e : Expr) → s.form ≡ Compound n o e → there s ≡ found e
  found_compound s n o e h = at_stmt s (g.Compound n o e) (h ∙ sym (rolls-Compound n o e))

  pub found_up : (s : Stmt) (n : NameData) → s.form ≡ Up n → there s ≡ []
  found_up s n h = at_stmt s (g.Up n) (h ∙ sym (rolls-Up n))

  pub found_down : (s : Stmt) (n : NameData) → s.form ≡ Down n → there s ≡ []
  found_down s n h = at_stmt s (g.Down n) (h ∙ sym (rolls-Down n))

  pub found_call_statement : (s : Stmt) (e : Expr) → s.form ≡ CallStmt e → there s ≡ found e
  found_call_statement s e h = at_stmt s (g.Call e) (h ∙ sym (rolls-CallStmt e))

  pub found_if : (s : Stmt) (e : Expr) (a a' : Stmt) (b : Option Stmt) → s.form ≡ If e a b → a' ≡ a → there s ≡ found e ++ (there a' ++ if_any (option_map there b))
  found_if s e a a' None h u = at_stmt s (g.If e a' None) (h ∙ ap (λ (z : Stmt). If e z None) (sym u) ∙ sym (rolls-If e a' None))
  found_if s e a a' (Some b) h u = at_stmt s (g.If e a' (Some b)) (h ∙ ap (λ (z : Stmt). If e z (Some b)) (sym u) ∙ sym (rolls-If e a' (Some b)))

  pub found_while : (s : Stmt) (e : Expr) (b b' : Stmt) → s.form ≡ While e b → b' ≡ b → there s ≡ found e ++ there b'
  found_while s e b b' h u = at_stmt s (g.While e b') (h ∙ ap (While e) (sym u) ∙ sym (rolls-While e b'))

  pub found_for : (s : Stmt) (a a' : Stmt) (e : Expr) (l l' b b' : Stmt) → s.form ≡ For a e l b → a' ≡ a → l' ≡ l → b' ≡ b → there s ≡ there a' ++ (found e ++ (there l' ++ there b'))
  found_for s a a' e l l' b b' h u v w = at_stmt s (g.For a' e l' b') (h ∙ (λ i. For (sym u i) e (sym v i) (sym w i)) ∙ sym (rolls-For a' e l' b'))

  pub found_return : (s : Stmt) (e : Option Expr) → s.form ≡ Return e → there s ≡ if_any (option_map found e)
  found_return s e h = at_stmt s (g.Return e) (h ∙ sym (rolls-Return e))

  pub found_print : (s : Stmt) (e : Expr) → s.form ≡ Print e → there s ≡ found e
  found_print s e h = at_stmt s (g.Print e) (h ∙ sym (rolls-Print e))

pub ruleset expressions = (found_group, found_field, found_index, found_call, found_new_array, found_prefix, found_binary, found_other)

pub ruleset statements = (found_block, found_empty, found_local, found_assign, found_compound, found_up, found_down, found_call_statement, found_if, found_while, found_for, found_return, found_print)
