-- What each form of a statement does when it is run.
use Rattle.std.proofs.Common.{◌≡◌, ℕ, List, map, Option, Some, option_map, unwrap_or, slice_get, sym, ap, ◌∙◌}
use Rattle.px_value.specs.declared.value.Value.{Value}
use Rattle.px_value.specs.declared.value.Value.TheVariants.{Null}
use Rattle.px_value.specs.declared.op.Op.{Op}
use Rattle.px_value.specs.declared.op.Op.TheVariants as op
use Rattle.px_value.specs.Operators.{apply}
use Rattle.px_facts.specs.declared.checked.Named.{Named}
use Rattle.px_facts.specs.declared.checked.Named.TheVariants as named
use Rattle.px_mean.specs.Run.{came_to}
use Rattle.px_mean.specs.Expressions.{assign_slot}
use Rattle.px_value.specs.Outcome.{Gives, Flow, Goes, then_run, ◌>>=◌, pure, in_order}
use Rattle.px_tree.specs.declared.Sign.{Sign}
use Rattle.px_tree.specs.declared.Name.{Name as NameData}
use Rattle.px_tree.specs.declared.TypeName.{TypeName}
use Rattle.px_tree.specs.declared.Expr.{Expr}
use Rattle.px_tree.specs.declared.Stmt.{Stmt}
use Rattle.px_tree.specs.declared.StmtForm.TheVariants.{Block, Empty, Local, Assign, Compound, Up, Down, Call, If, While, For, Return, Print}
use Rattle.px_mean.specs.Facts.{type_at, named_at, op_of}
use Rattle.px_mean.specs.Statements.{change_local, one, loop, all_turns, returned}
use Rattle.px_rows.specs.Tables.{Tables}
use Rattle.px_mean.proofs.Forms as forms
use Rattle.px_plain.specs.declared.around.Around.{Around}
use Rattle.px_plain.specs.View.{Here, Ending, around_of, says, does}
use Rattle.px_plain.specs.Parts.{declared, printed, chosen, looped}

-- a local is changed, up to the operator
pub change_is : (slot : ℕ) (o o' : Op) (r : (Here → Ending Here Value)) (s far : Here) (a b : Value) (n : Named) → n ≡ named.Local slot → a ≡ unwrap_or (slice_get s.locals slot) Null → r s ≡ Gives b far → o' ≡ o → change_local n o r s ≡ then_run (came_to (apply o' a b) far) (assign_slot slot)
change_is slot o o' r s far a b n h e k u =
    ap (λ (x : Named). change_local x o r s) h ∙ ap (λ (x : Ending Here Value). then_run x (λ c. came_to (apply o (unwrap_or (slice_get s.locals slot) Null) c) >>= assign_slot slot)) k
    ∙ (λ i. then_run (came_to (apply (sym u i) (sym e i) b) far) (assign_slot slot))

module _ (a : Around) where
  abbrev at_s : Here → (Here → Ending Here (Flow Value)) → Ending Here (Flow Value)
  at_s s d = d s

  pub does_block : (x : Stmt) (s : Here) (items : List Stmt) → x.form ≡ Block items → does a x s ≡ in_order (map (does a) items) s
  does_block x s items h = ap (at_s s) (forms.done_block ⊥ Tables (around_of a) a.result x items h)

  pub does_empty : (x : Stmt) (s : Here) → x.form ≡ Empty → does a x s ≡ Gives Goes s
  does_empty x s h = ap (at_s s) (forms.done_empty ⊥ Tables (around_of a) a.result x h)

  pub does_local : (x : Stmt) (s : Here) (t : TypeName) (n : NameData) (e : Expr) → x.form ≡ Local t n e → does a x s ≡ then_run (declared a e x.id s) (λ _. pure Goes)
  does_local x s t n e h = ap (at_s s) (forms.done_local ⊥ Tables (around_of a) a.result x t n e h)

  pub does_assign : (x : Stmt) (s : Here) (place e : Expr) → x.form ≡ Assign place e → does a x s ≡ then_run ((says a place).put (says a e).ty (says a e).run s) (λ _. pure Goes)
  does_assign x s place e h = ap (at_s s) (forms.done_assign ⊥ Tables (around_of a) a.result x place e h)

  pub does_compound : (x : Stmt) (s : Here) (n : NameData) (sign : Sign) (e : Expr) → x.form ≡ Compound n sign e → does a x s ≡ then_run (change_local (named_at a.facts.now x.id) (op_of sign (type_at a.facts.now x.id) (says a e).ty) (says a e).run s) (λ _. pure Goes)
  does_compound x s n sign e h = ap (at_s s) (forms.done_compound ⊥ Tables (around_of a) a.result x n sign e h)

  pub does_up : (x : Stmt) (s : Here) (n : NameData) → x.form ≡ Up n → does a x s ≡ then_run (change_local (named_at a.facts.now x.id) op.Add (pure (one (type_at a.facts.now x.id))) s) (λ _. pure Goes)
  does_up x s n h = ap (at_s s) (forms.done_up ⊥ Tables (around_of a) a.result x n h)

  pub does_down : (x : Stmt) (s : Here) (n : NameData) → x.form ≡ Down n → does a x s ≡ then_run (change_local (named_at a.facts.now x.id) op.Sub (pure (one (type_at a.facts.now x.id))) s) (λ _. pure Goes)
  does_down x s n h = ap (at_s s) (forms.done_down ⊥ Tables (around_of a) a.result x n h)

  pub does_call : (x : Stmt) (s : Here) (e : Expr) → x.form ≡ Call e → does a x s ≡ then_run ((says a e).run s) (λ _. pure Goes)
  does_call x s e h = ap (at_s s) (forms.done_call ⊥ Tables (around_of a) a.result x e h)

  pub does_if : (x : Stmt) (s : Here) (e : Expr) (b b' : Stmt) (other : Option Stmt) → x.form ≡ If e b other → b' ≡ b → does a x s ≡ chosen a e b' other s
  does_if x s e b b' other h u = ap (at_s s) (forms.done_if ⊥ Tables (around_of a) a.result x e b b' other h u)

  pub does_while : (x : Stmt) (s : Here) (e : Expr) (b b' : Stmt) → x.form ≡ While e b → b' ≡ b → does a x s ≡ loop (says a e).run (does a b') all_turns s
  does_while x s e b b' h u = ap (at_s s) (forms.done_while ⊥ Tables (around_of a) a.result x e b b' h u)

  pub does_for : (x : Stmt) (s : Here) (f f' : Stmt) (e : Expr) (l l' b b' : Stmt) → x.form ≡ For f e l b → f' ≡ f → l' ≡ l → b' ≡ b → does a x s ≡ looped a (Some f') e (Some l') b' s
  does_for x s f f' e l l' b b' h u v w = ap (at_s s) (forms.done_for ⊥ Tables (around_of a) a.result x f f' e l l' b b' h u v w)

  pub does_return : (x : Stmt) (s : Here) (e : Option Expr) → x.form ≡ Return e → does a x s ≡ returned a.result (option_map (says a) e) s
  does_return x s e h = ap (at_s s) (forms.done_return ⊥ Tables (around_of a) a.result x e h)

  pub does_print : (x : Stmt) (s : Here) (e : Expr) → x.form ≡ Print e → does a x s ≡ then_run (printed a e s) (λ _. pure Goes)
  does_print x s e h = ap (at_s s) (forms.done_print ⊥ Tables (around_of a) a.result x e h)
