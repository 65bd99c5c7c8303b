-- What each form of an expression and of a statement means with its marks, as an equation. A part is given twice, as the tree has it and as code reads it.
use Rattle.std.proofs.Common.{◌≡◌, ℕ, Bool, List, map, Option, Some, None, option_map, if◌then◌else◌, sym, ap, ◌∙◌}
use Rattle.px_value.specs.declared.value.Value.TheVariants.{Null, Bool as Truth, Text}
use Rattle.px_value.specs.declared.op.Op.TheVariants as op
use Rattle.px_value.specs.Outcome.{Goes, ◌>>=◌, pure, on_shared, goes_on, in_order}
use Rattle.px_tree.specs.declared.Sign.{Sign}
use Rattle.px_tree.specs.declared.Base.{Base}
use Rattle.px_tree.specs.declared.Name.{Name as NameData}
use Rattle.px_tree.specs.declared.TypeName.{TypeName}
use Rattle.px_tree.specs.declared.Expr.{Expr, fold_out-Expr}
use Rattle.px_tree.specs.declared.ExprForm.{ExprForm, ExprForm-F, fold-ExprForm, fold-roll-ExprForm, roll-ExprForm, map-ExprForm}
use Rattle.px_tree.specs.declared.ExprForm.TheVariants.{Number, rolls-Number, Str, rolls-Str, True, rolls-True, False, rolls-False, Null as NullForm, rolls-Null, This, rolls-This, Name, rolls-Name, Group, rolls-Group, Field, rolls-Field, Index, rolls-Index, Call, rolls-Call, NewObject, rolls-NewObject, NewArray, rolls-NewArray, Prefix, rolls-Prefix, Binary, rolls-Binary}
use Rattle.px_tree.specs.declared.ExprForm.TheOpen.{ExprForm-F as f}
use Rattle.px_tree.specs.declared.Stmt.{Stmt, fold_out-Stmt}
use Rattle.px_tree.specs.declared.StmtForm.{StmtForm, StmtForm-F, fold-StmtForm, fold-roll-StmtForm, roll-StmtForm, map-StmtForm}
use Rattle.px_tree.specs.declared.StmtForm.TheVariants.{Block, rolls-Block, Empty, rolls-Empty, Local, rolls-Local, Assign, rolls-Assign, Compound, rolls-Compound, Up, rolls-Up, Down, rolls-Down, Call as CallStmt, rolls-Call as rolls-CallStmt, If, rolls-If, While, rolls-While, For, rolls-For, Return, rolls-Return, Print, rolls-Print}
use Rattle.px_tree.specs.declared.StmtForm.TheOpen.{StmtForm-F as g}
use Rattle.px_facts.specs.declared.types.Ty.{Ty}
use Rattle.px_mean.specs.Run.{came_to}
use Rattle.px_mean.specs.Facts.{type_at, named_at, op_of, prefix_of}
use Rattle.px_mean.specs.Effects.{load, store, print_line}
use Rattle.px_mean.specs.Expressions.{Around, Meant, no_place, fit, literal, this_value, name_value, put_name, member_value, put_member, called, made_object, made_array, prefixed, is_true, binary, expr_step, numbered}
use Rattle.px_mean.specs.Statements.{Does, goes, write_local, change_local, one, all_turns, loop, or_goes, returned, stmt_step, numbered_statement}
use Rattle.px_counts.specs.Marks.{Marked}
use Rattle.px_counts.specs.Runs.{marked_meant, meant_with_marks, marked_does, done_with_marks}

module _ (Q V : Type 0) (P : Around Q (Marked V)) where
  abbrev W : Type 0
  W = Marked V

  abbrev M : Type 0
  M = Meant Q W

  abbrev pub says : Expr → M
  says = meant_with_marks P

  abbrev step_m : ExprForm-F (ℕ → M) M → ℕ → M
  step_m form id = marked_meant id (expr_step P form id)

  at_form : (e : Expr) (x : ExprForm-F ExprForm Expr) → e.form ≡ roll-ExprForm x → says e ≡ marked_meant e.id (expr_step P (map-ExprForm ExprForm Expr (ℕ → M) M (fold-ExprForm (ℕ → M) M step_m numbered) says x) e.id)
  unfolding meant_with_marks
  at_form e x h =
      fold_out-Expr (ℕ → M) M step_m numbered e ∙ ap (λ (k : ExprForm). fold-ExprForm (ℕ → M) M step_m numbered k e.id) h
      ∙ ap (λ (k : ℕ → M). k e.id) (fold-roll-ExprForm (ℕ → M) M step_m numbered x)

  pub meant_number : (e : Expr) (digits : List ℕ) (long : Bool) → e.form ≡ Number digits long → says e ≡ marked_meant e.id (no_place (type_at P.facts e.id) (pure (literal digits long)))
  meant_number e digits long h = at_form e (f.Number digits long) (h ∙ sym (rolls-Number digits long))

  pub meant_text : (e : Expr) (bytes : List ℕ) → e.form ≡ Str bytes → says e ≡ marked_meant e.id (no_place (type_at P.facts e.id) (pure (Text bytes)))
  meant_text e bytes h = at_form e (f.Str bytes) (h ∙ sym (rolls-Str bytes))

  pub meant_true : (e : Expr) → e.form ≡ True → says e ≡ marked_meant e.id (no_place (type_at P.facts e.id) (pure (Truth Bool.true)))
  meant_true e h = at_form e f.True (h ∙ sym rolls-True)

  pub meant_false : (e : Expr) → e.form ≡ False → says e ≡ marked_meant e.id (no_place (type_at P.facts e.id) (pure (Truth Bool.false)))
  meant_false e h = at_form e f.False (h ∙ sym rolls-False)

  pub meant_null : (e : Expr) → e.form ≡ NullForm → says e ≡ marked_meant e.id (no_place (type_at P.facts e.id) (pure Null))
  meant_null e h = at_form e f.Null (h ∙ sym rolls-Null)

  pub meant_this : (e : Expr) → e.form ≡ This → says e ≡ marked_meant e.id (no_place (type_at P.facts e.id) this_value)
  meant_this e h = at_form e f.This (h ∙ sym rolls-This)

  pub meant_name : (e : Expr) (n : NameData) → e.form ≡ Name n → says e ≡ marked_meant e.id (record { ty = type_at P.facts e.id; run = name_value (named_at P.facts e.id); put = put_name (named_at P.facts e.id) (type_at P.facts e.id) })
  meant_name e n h = at_form e (f.Name n) (h ∙ sym (rolls-Name n))

  pub meant_group : (e x y : Expr) → e.form ≡ Group x → y ≡ x → says e ≡ marked_meant e.id (no_place (type_at P.facts e.id) (says y).run)
  meant_group e x y h u = at_form e (f.Group y) (h ∙ ap Group (sym u) ∙ sym (rolls-Group y))

  pub meant_field : (e x y : Expr) (n : NameData) → e.form ≡ Field x n → y ≡ x → says e ≡ marked_meant e.id (record { ty = type_at P.facts e.id; run = (says y).run >>= member_value (named_at P.facts e.id); put = λ from r. (says y).run >>= (λ o. r >>= fit from (type_at P.facts e.id) >>= put_member (named_at P.facts e.id) o) })
  meant_field e x y n h u = at_form e (f.Field y n) (h ∙ ap (λ (z : Expr). Field z n) (sym u) ∙ sym (rolls-Field y n))

  pub meant_index : (e x y i j : Expr) → e.form ≡ Index x i → y ≡ x → j ≡ i → says e ≡ marked_meant e.id (record { ty = type_at P.facts e.id; run = (says y).run >>= (λ a. (says j).run >>= (λ k. on_shared (load a k))); put = λ from r. (says y).run >>= (λ a. (says j).run >>= (λ k. r >>= fit from (type_at P.facts e.id) >>= (λ v. on_shared (store a k v)))) })
  meant_index e x y i j h u v = at_form e (f.Index y j) (h ∙ (λ t. Index (sym u t) (sym v t)) ∙ sym (rolls-Index y j))

  pub meant_call : (e : Expr) (of : Option Expr) (n : NameData) (args : List Expr) → e.form ≡ Call of n args → says e ≡ marked_meant e.id (no_place (type_at P.facts e.id) (called P (named_at P.facts e.id) (option_map says of) (map says args)))
  meant_call e None n args h = at_form e (f.Call None n args) (h ∙ sym (rolls-Call None n args))
  meant_call e (Some of) n args h = at_form e (f.Call (Some of) n args) (h ∙ sym (rolls-Call (Some of) n args))

  pub meant_new_object : (e : Expr) (n : NameData) → e.form ≡ NewObject n → says e ≡ marked_meant e.id (no_place (type_at P.facts e.id) (made_object P.facts (named_at P.facts e.id)))
  meant_new_object e n h = at_form e (f.NewObject n) (h ∙ sym (rolls-NewObject n))

  pub meant_new_array : (e x y : Expr) (b : Base) → e.form ≡ NewArray b x → y ≡ x → says e ≡ marked_meant e.id (no_place (type_at P.facts e.id) ((says y).run >>= made_array (named_at P.facts e.id) (type_at P.facts e.id)))
  meant_new_array e x y b h u = at_form e (f.NewArray b y) (h ∙ ap (NewArray b) (sym u) ∙ sym (rolls-NewArray b y))

  pub meant_prefix : (e x y : Expr) (s : Sign) → e.form ≡ Prefix s x → y ≡ x → says e ≡ marked_meant e.id (no_place (type_at P.facts e.id) ((says y).run >>= (λ v. came_to (prefixed (prefix_of s (says y).ty) v))))
  meant_prefix e x y s h u = at_form e (f.Prefix s y) (h ∙ ap (Prefix s) (sym u) ∙ sym (rolls-Prefix s y))

  pub meant_binary : (e l r l' r' : Expr) (s : Sign) (at : ℕ) → e.form ≡ Binary s at l r → l' ≡ l → r' ≡ r → says e ≡ marked_meant e.id (no_place (type_at P.facts e.id) (binary s (says l').ty (says r').ty (says l').run (says r').run))
  meant_binary e l r l' r' s at h u v = at_form e (f.Binary s at l' r') (h ∙ (λ i. Binary s at (sym u i) (sym v i)) ∙ sym (rolls-Binary s at l' r'))

-- ---- statements

module _ (Q V : Type 0) (P : Around Q (Marked V)) (result : Ty) where
  abbrev D : Type 0
  D = Does Q (Marked V)

  abbrev m : Expr → Meant Q (Marked V)
  m = meant_with_marks P

  abbrev does : Stmt → D
  does = done_with_marks P result

  abbrev step_s : StmtForm-F (ℕ → D) D → ℕ → D
  step_s form id = marked_does id (stmt_step P.facts m result form id)

  at_stmt : (x : Stmt) (y : StmtForm-F StmtForm Stmt) → x.form ≡ roll-StmtForm y → does x ≡ marked_does x.id (stmt_step P.facts m result (map-StmtForm StmtForm Stmt (ℕ → D) D (fold-StmtForm (ℕ → D) D step_s numbered_statement) does y) x.id)
  unfolding done_with_marks
  at_stmt x y h =
      fold_out-Stmt (ℕ → D) D step_s numbered_statement x ∙ ap (λ (k : StmtForm). fold-StmtForm (ℕ → D) D step_s numbered_statement k x.id) h
      ∙ ap (λ (k : ℕ → D). k x.id) (fold-roll-StmtForm (ℕ → D) D step_s numbered_statement y)

  pub done_block : (x : Stmt) (items : List Stmt) → x.form ≡ Block items → does x ≡ marked_does x.id (in_order (map does items))
  done_block x items h = at_stmt x (g.Block items) (h ∙ sym (rolls-Block items))

  pub done_empty : (x : Stmt) → x.form ≡ Empty → does x ≡ marked_does x.id (pure Goes)
  done_empty x h = at_stmt x g.Empty (h ∙ sym rolls-Empty)

  pub done_local : (x : Stmt) (t : TypeName) (n : NameData) (e : Expr) → x.form ≡ Local t n e → does x ≡ marked_does x.id (goes ((m e).run >>= fit (m e).ty (type_at P.facts x.id) >>= write_local (named_at P.facts x.id)))
  done_local x t n e h = at_stmt x (g.Local t n e) (h ∙ sym (rolls-Local t n e))

  pub done_assign : (x : Stmt) (place e : Expr) → x.form ≡ Assign place e → does x ≡ marked_does x.id (goes ((m place).put (m e).ty (m e).run))
  done_assign x place e h = at_stmt x (g.Assign place e) (h ∙ sym (rolls-Assign place e))

  pub done_compound : (x : Stmt) (n : NameData) (s : Sign) (e : Expr) → x.form ≡ Compound n s e → does x ≡ marked_does x.id (goes (change_local (named_at P.facts x.id) (op_of s (type_at P.facts x.id) (m e).ty) (m e).run))
  done_compound x n s e h = at_stmt x (g.Compound n s e) (h ∙ sym (rolls-Compound n s e))

  pub done_up : (x : Stmt) (n : NameData) → x.form ≡ Up n → does x ≡ marked_does x.id (goes (change_local (named_at P.facts x.id) op.Add (pure (one (type_at P.facts x.id)))))
  done_up x n h = at_stmt x (g.Up n) (h ∙ sym (rolls-Up n))

  pub done_down : (x : Stmt) (n : NameData) → x.form ≡ Down n → does x ≡ marked_does x.id (goes (change_local (named_at P.facts x.id) op.Sub (pure (one (type_at P.facts x.id)))))
  done_down x n h = at_stmt x (g.Down n) (h ∙ sym (rolls-Down n))

  pub done_call : (x : Stmt) (e : Expr) → x.form ≡ CallStmt e → does x ≡ marked_does x.id (goes (m e).run)
  done_call x e h = at_stmt x (g.Call e) (h ∙ sym (rolls-CallStmt e))

  pub done_if : (x : Stmt) (e : Expr) (a a' : Stmt) (b : Option Stmt) → x.form ≡ If e a b → a' ≡ a → does x ≡ marked_does x.id ((m e).run >>= (λ v. if is_true v then does a' else or_goes (option_map does b)))
  done_if x e a a' None h u = at_stmt x (g.If e a' None) (h ∙ ap (λ (z : Stmt). If e z None) (sym u) ∙ sym (rolls-If e a' None))
  done_if x e a a' (Some b) h u = at_stmt x (g.If e a' (Some b)) (h ∙ ap (λ (z : Stmt). If e z (Some b)) (sym u) ∙ sym (rolls-If e a' (Some b)))

  pub done_while : (x : Stmt) (e : Expr) (b b' : Stmt) → x.form ≡ While e b → b' ≡ b → does x ≡ marked_does x.id (loop (m e).run (does b') all_turns)
  done_while x e b b' h u = at_stmt x (g.While e b') (h ∙ ap (While e) (sym u) ∙ sym (rolls-While e b'))

  pub done_for : (x : Stmt) (a a' : Stmt) (e : Expr) (l l' b b' : Stmt) → x.form ≡ For a e l b → a' ≡ a → l' ≡ l → b' ≡ b → does x ≡ marked_does x.id (does a' >>= goes_on (loop (m e).run (does b' >>= goes_on (does l')) all_turns))
  done_for x a a' e l l' b b' h u v w = at_stmt x (g.For a' e l' b') (h ∙ (λ i. For (sym u i) e (sym v i) (sym w i)) ∙ sym (rolls-For a' e l' b'))

  pub done_return : (x : Stmt) (e : Option Expr) → x.form ≡ Return e → does x ≡ marked_does x.id (returned result (option_map m e))
  done_return x None h = at_stmt x (g.Return None) (h ∙ sym (rolls-Return None))
  done_return x (Some e) h = at_stmt x (g.Return (Some e)) (h ∙ sym (rolls-Return (Some e)))

  pub done_print : (x : Stmt) (e : Expr) → x.form ≡ Print e → does x ≡ marked_does x.id (goes ((m e).run >>= (λ v. on_shared (print_line v))))
  done_print x e h = at_stmt x (g.Print e) (h ∙ sym (rolls-Print e))
