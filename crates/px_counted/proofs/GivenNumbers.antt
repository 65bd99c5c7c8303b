-- How often a number is given in each form of an expression and of a statement, as an equation.
use Rattle.std.proofs.Common.{◌≡◌, ℕ, ◌+◌, Bool, List, map, Some, None, sym, ap, ◌∙◌}
use Rattle.px_tree.specs.declared.Sign.{Sign}
use Rattle.px_tree.specs.declared.Base.{Base}
use Rattle.px_tree.specs.declared.Name.{Name as NameData}
use Rattle.px_tree.specs.declared.TypeName.{TypeName}
use Rattle.px_tree.specs.declared.Expr.{Expr, fold_out-Expr}
use Rattle.px_tree.specs.declared.ExprForm.{ExprForm, ExprForm-F, fold-ExprForm, fold-roll-ExprForm, roll-ExprForm, map-ExprForm}
use Rattle.px_tree.specs.declared.ExprForm.TheVariants.{Number, rolls-Number, Str, rolls-Str, True, rolls-True, False, rolls-False, Null, rolls-Null, This, rolls-This, Name, rolls-Name, Group, rolls-Group, Field, rolls-Field, Index, rolls-Index, Call, rolls-Call, NewObject, rolls-NewObject, NewArray, rolls-NewArray, Prefix, rolls-Prefix, Binary, rolls-Binary}
use Rattle.px_tree.specs.declared.ExprForm.TheOpen.{ExprForm-F as f}
use Rattle.px_tree.specs.declared.Stmt.{Stmt, fold_out-Stmt}
use Rattle.px_tree.specs.declared.StmtForm.{StmtForm, StmtForm-F, fold-StmtForm, fold-roll-StmtForm, roll-StmtForm, map-StmtForm}
use Rattle.px_tree.specs.declared.StmtForm.TheVariants.{Block, rolls-Block, Empty, rolls-Empty, Local, rolls-Local, Assign, rolls-Assign, Compound, rolls-Compound, Up, rolls-Up, Down, rolls-Down, Call as CallStmt, rolls-Call as rolls-CallStmt, If, rolls-If, While, rolls-While, For, rolls-For, Return, rolls-Return, Print, rolls-Print}
use Rattle.px_tree.specs.declared.StmtForm.TheOpen.{StmtForm-F as g}
use Rattle.px_counted.specs.Numbers.{all_of, one_if, in_parts, with_own, given, in_statement_parts, with_own_statement, given_statement}

module _ (number : ℕ) where
  abbrev form_given : ExprForm → ℕ
  form_given = fold-ExprForm ℕ ℕ in_parts (with_own number)

  at_form : (x : Expr) (y : ExprForm-F ExprForm Expr) → x.form ≡ roll-ExprForm y → given number x ≡ one_if number x.id + in_parts (map-ExprForm ExprForm Expr ℕ ℕ form_given (given number) y)
  unfolding given
  at_form x y h =
      fold_out-Expr ℕ ℕ in_parts (with_own number) x ∙ ap (λ (k : ExprForm). one_if number x.id + form_given k) h
      ∙ ap (λ (k : ℕ). one_if number x.id + k) (fold-roll-ExprForm ℕ ℕ in_parts (with_own number) y)

  pub given_number : (x : Expr) (digits : List ℕ) (long : Bool) → x.form ≡ Number digits long → given number x ≡ one_if number x.id + 0
  given_number x digits long h = at_form x (f.Number digits long) (h ∙ sym (rolls-Number digits long))

  pub given_text : (x : Expr) (bytes : List ℕ) → x.form ≡ Str bytes → given number x ≡ one_if number x.id + 0
  given_text x bytes h = at_form x (f.Str bytes) (h ∙ sym (rolls-Str bytes))

  pub given_true : (x : Expr) → x.form ≡ True → given number x ≡ one_if number x.id + 0
  given_true x h = at_form x f.True (h ∙ sym rolls-True)

  pub given_false : (x : Expr) → x.form ≡ False → given number x ≡ one_if number x.id + 0
  given_false x h = at_form x f.False (h ∙ sym rolls-False)

  pub given_null : (x : Expr) → x.form ≡ Null → given number x ≡ one_if number x.id + 0
  given_null x h = at_form x f.Null (h ∙ sym rolls-Null)

  pub given_this : (x : Expr) → x.form ≡ This → given number x ≡ one_if number x.id + 0
  given_this x h = at_form x f.This (h ∙ sym rolls-This)

  pub given_name : (x : Expr) (n : NameData) → x.form ≡ Name n → given number x ≡ one_if number x.id + 0
  given_name x n h = at_form x (f.Name n) (h ∙ sym (rolls-Name n))

  pub given_group : (x y : Expr) → x.form ≡ Group y → given number x ≡ one_if number x.id + given number y
  given_group x y h = at_form x (f.Group y) (h ∙ sym (rolls-Group y))

  pub given_field : (x of : Expr) (n : NameData) → x.form ≡ Field of n → given number x ≡ one_if number x.id + given number of
  given_field x of n h = at_form x (f.Field of n) (h ∙ sym (rolls-Field of n))

  pub given_index : (x of i : Expr) → x.form ≡ Index of i → given number x ≡ one_if number x.id + (given number of + given number i)
  given_index x of i h = at_form x (f.Index of i) (h ∙ sym (rolls-Index of i))

  pub given_own_call : (x : Expr) (n : NameData) (args : List Expr) → x.form ≡ Call None n args → given number x ≡ one_if number x.id + (0 + all_of (map (given number) args))
  given_own_call x n args h = at_form x (f.Call None n args) (h ∙ sym (rolls-Call None n args))

  pub given_call : (x of : Expr) (n : NameData) (args : List Expr) → x.form ≡ Call (Some of) n args → given number x ≡ one_if number x.id + (given number of + all_of (map (given number) args))
  given_call x of n args h = at_form x (f.Call (Some of) n args) (h ∙ sym (rolls-Call (Some of) n args))

  pub given_new_object : (x : Expr) (n : NameData) → x.form ≡ NewObject n → given number x ≡ one_if number x.id + 0
  given_new_object x n h = at_form x (f.NewObject n) (h ∙ sym (rolls-NewObject n))

  pub given_new_array : (x y : Expr) (b : Base) → x.form ≡ NewArray b y → given number x ≡ one_if number x.id + given number y
  given_new_array x y b h = at_form x (f.NewArray b y) (h ∙ sym (rolls-NewArray b y))

  pub given_prefix : (x y : Expr) (s : Sign) → x.form ≡ Prefix s y → given number x ≡ one_if number x.id + given number y
  given_prefix x y s h = at_form x (f.Prefix s y) (h ∙ sym (rolls-Prefix s y))

  pub given_binary : (x l r : Expr) (s : Sign) (at : ℕ) → x.form ≡ Binary s at l r → given number x ≡ one_if number x.id + (given number l + given number r)
  given_binary x l r s at h = at_form x (f.Binary s at l r) (h ∙ sym (rolls-Binary s at l r))

  -- ---- statements

  abbrev parts : StmtForm-F ℕ ℕ → ℕ
  parts = in_statement_parts (given number)

  abbrev form_given_statement : StmtForm → ℕ
  form_given_statement = fold-StmtForm ℕ ℕ parts (with_own_statement number)

  at_stmt : (x : Stmt) (y : StmtForm-F StmtForm Stmt) → x.form ≡ roll-StmtForm y → given_statement number x ≡ one_if number x.id + parts (map-StmtForm StmtForm Stmt ℕ ℕ form_given_statement (given_statement number) y)
  unfolding given_statement
  at_stmt x y h =
      fold_out-Stmt ℕ ℕ parts (with_own_statement number) x ∙ ap (λ (k : StmtForm). one_if number x.id + form_given_statement k) h
      ∙ ap (λ (k : ℕ). one_if number x.id + k) (fold-roll-StmtForm ℕ ℕ parts (with_own_statement number) y)

  pub given_block : (x : Stmt) (items : List Stmt) → x.form ≡ Block items → given_statement number x ≡ one_if number x.id + all_of (map (given_statement number) items)
  given_block x items h = at_stmt x (g.Block items) (h ∙ sym (rolls-Block items))

  pub given_empty : (x : Stmt) → x.form ≡ Empty → given_statement number x ≡ one_if number x.id + 0
  given_empty x h = at_stmt x g.Empty (h ∙ sym rolls-Empty)

  pub given_local : (x : Stmt) (t : TypeName) (n : NameData) (e : Expr) → x.form ≡ Local t n e → given_statement number x ≡ one_if number x.id + given number e
  given_local x t n e h = at_stmt x (g.Local t n e) (h ∙ sym (rolls-Local t n e))

  pub given_assign : (x : Stmt) (place e : Expr) → x.form ≡ Assign place e → given_statement number x ≡ one_if number x.id + (given number place + given number e)
  given_assign x place e h = at_stmt x (g.Assign place e) (h ∙ sym (rolls-Assign place e))

  pub given_compound : (x : Stmt) (n : NameData) (s : Sign) (e : Expr) → x.form ≡ Compound n s e → given_statement number x ≡ one_if number x.id + given number e
  given_compound x n s e h = at_stmt x (g.Compound n s e) (h ∙ sym (rolls-Compound n s e))

  pub given_up : (x : Stmt) (n : NameData) → x.form ≡ Up n → given_statement number x ≡ one_if number x.id + 0
  given_up x n h = at_stmt x (g.Up n) (h ∙ sym (rolls-Up n))

  pub given_down : (x : Stmt) (n : NameData) → x.form ≡ Down n → given_statement number x ≡ one_if number x.id + 0
  given_down x n h = at_stmt x (g.Down n) (h ∙ sym (rolls-Down n))

  pub given_call_statement : (x : Stmt) (e : Expr) → x.form ≡ CallStmt e → given_statement number x ≡ one_if number x.id + given number e
  given_call_statement x e h = at_stmt x (g.Call e) (h ∙ sym (rolls-CallStmt e))

  pub given_if_only : (x : Stmt) (test : Expr) (a : Stmt) → x.form ≡ If test a None → given_statement number x ≡ one_if number x.id + (given number test + (given_statement number a + 0))
  given_if_only x test a h = at_stmt x (g.If test a None) (h ∙ sym (rolls-If test a None))

  pub given_if_else : (x : Stmt) (test : Expr) (a b : Stmt) → x.form ≡ If test a (Some b) → given_statement number x ≡ one_if number x.id + (given number test + (given_statement number a + given_statement number b))
  given_if_else x test a b h = at_stmt x (g.If test a (Some b)) (h ∙ sym (rolls-If test a (Some b)))

  pub given_while : (x : Stmt) (test : Expr) (body : Stmt) → x.form ≡ While test body → given_statement number x ≡ one_if number x.id + (given number test + given_statement number body)
  given_while x test body h = at_stmt x (g.While test body) (h ∙ sym (rolls-While test body))

  pub given_for : (x first : Stmt) (test : Expr) (last body : Stmt) → x.form ≡ For first test last body → given_statement number x ≡ one_if number x.id + (given_statement number first + (given number test + (given_statement number last + given_statement number body)))
  given_for x first test last body h = at_stmt x (g.For first test last body) (h ∙ sym (rolls-For first test last body))

  pub given_leave : (x : Stmt) → x.form ≡ Return None → given_statement number x ≡ one_if number x.id + 0
  given_leave x h = at_stmt x (g.Return None) (h ∙ sym (rolls-Return None))

  pub given_return : (x : Stmt) (e : Expr) → x.form ≡ Return (Some e) → given_statement number x ≡ one_if number x.id + given number e
  given_return x e h = at_stmt x (g.Return (Some e)) (h ∙ sym (rolls-Return (Some e)))

  pub given_print : (x : Stmt) (e : Expr) → x.form ≡ Print e → given_statement number x ≡ one_if number x.id + given number e
  given_print x e h = at_stmt x (g.Print e) (h ∙ sym (rolls-Print e))
