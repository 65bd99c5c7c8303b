-- The same of statements.
use Rattle.std.proofs.Common.{◌≡◌, ℕ, Bool, true, false, List, map, Option, Some, None, option_map, sym, ap, ◌∙◌}
use Rattle.px_value.specs.declared.op.Op.TheVariants as op
use Rattle.px_tree.specs.declared.Sign.{Sign}
use Rattle.px_tree.specs.declared.Name.{Name}
use Rattle.px_tree.specs.declared.TypeName.{TypeName}
use Rattle.px_tree.specs.declared.Expr.{Expr}
use Rattle.px_tree.specs.declared.Stmt.{Stmt, fold_out-Stmt}
use Rattle.px_tree.specs.declared.StmtForm.{StmtForm, StmtForm-F, ind-StmtForm, fold-StmtForm, fold-roll-StmtForm, roll-StmtForm, map-StmtForm}
use Rattle.px_tree.specs.declared.StmtForm.TheVariants.{Block, rolls-Block, Empty, rolls-Empty, Local, rolls-Local, Assign, rolls-Assign, Compound, rolls-Compound, Up, rolls-Up, Down, rolls-Down, Call, rolls-Call, If, rolls-If, While, rolls-While, For, rolls-For, Return, rolls-Return, Print, rolls-Print}
use Rattle.px_tree.specs.declared.StmtForm.TheOpen.{StmtForm-F as f}
use Rattle.px_facts.specs.declared.types.Ty.{Ty as Static}
use Rattle.px_facts.specs.declared.checked.Checked.{Checked}
use Rattle.px_mean.specs.Facts.{type_at, named_at, op_of}
use Rattle.px_lowering.specs.Expressions.{part_of, put_low}
use Rattle.px_lowering.specs.Statements.{Steps, whole, last_completes, either_completes, completes_step, completes, lower_all, local_low, compound_low, by_one_low, call_low, if_low, loop_low, for_low, return_low, print_low, stmt_low, placed, low_stmt}

abbrev L : Type 0
L = ℕ → ℕ → Steps

module _ (P : Checked) (g : Static) where
  at_form : (s : Stmt) (x : StmtForm-F StmtForm Stmt) → s.form ≡ roll-StmtForm x → low_stmt P g s ≡ stmt_low P g (map-StmtForm StmtForm Stmt L Steps (fold-StmtForm L Steps (stmt_low P g) placed) (low_stmt P g) x) s.id s.token
  unfolding low_stmt
  at_form s x h =
      fold_out-Stmt L Steps (stmt_low P g) placed s ∙ ap (λ (k : StmtForm). fold-StmtForm L Steps (stmt_low P g) placed k s.id s.token) h
      ∙ ap (λ (k : L). k s.id s.token) (fold-roll-StmtForm L Steps (stmt_low P g) placed x)

  pub low_block : (s : Stmt) (items : List Stmt) → s.form ≡ Block items → low_stmt P g s ≡ lower_all (map (low_stmt P g) items)
  low_block s items h = at_form s (f.Block items) (h ∙ sym (rolls-Block items))

  pub low_empty : (s : Stmt) → s.form ≡ Empty → low_stmt P g s ≡ (λ o. o)
  low_empty s h = at_form s f.Empty (h ∙ sym rolls-Empty)

  pub low_local : (s : Stmt) (t : TypeName) (n : Name) (e : Expr) → s.form ≡ Local t n e → low_stmt P g s ≡ local_low P (part_of P e) s.id s.token
  low_local s t n e h = at_form s (f.Local t n e) (h ∙ sym (rolls-Local t n e))

  pub low_assign : (s : Stmt) (p e : Expr) → s.form ≡ Assign p e → low_stmt P g s ≡ put_low P p (part_of P e) s.token
  low_assign s p e h = at_form s (f.Assign p e) (h ∙ sym (rolls-Assign p e))

  pub low_compound : (s : Stmt) (n : Name) (o : Sign) (e : Expr) → s.form ≡ Compound n o e → low_stmt P g s ≡ compound_low P (named_at P.facts s.id) (op_of o (type_at P.facts s.id) (type_at P.facts e.id)) (part_of P e) s.token
  low_compound s n o e h = at_form s (f.Compound n o e) (h ∙ sym (rolls-Compound n o e))

  pub low_up : (s : Stmt) (n : Name) → s.form ≡ Up n → low_stmt P g s ≡ by_one_low P (named_at P.facts s.id) op.Add s.id s.token
  low_up s n h = at_form s (f.Up n) (h ∙ sym (rolls-Up n))

  pub low_down : (s : Stmt) (n : Name) → s.form ≡ Down n → low_stmt P g s ≡ by_one_low P (named_at P.facts s.id) op.Sub s.id s.token
  low_down s n h = at_form s (f.Down n) (h ∙ sym (rolls-Down n))

  pub low_call : (s : Stmt) (e : Expr) → s.form ≡ Call e → low_stmt P g s ≡ call_low P (part_of P e)
  low_call s e h = at_form s (f.Call e) (h ∙ sym (rolls-Call e))

  pub low_if : (s : Stmt) (e : Expr) (a a' : Stmt) (b : Option Stmt) → s.form ≡ If e a b → a' ≡ a → low_stmt P g s ≡ if_low P (part_of P e) (low_stmt P g a') (option_map (low_stmt P g) b) s.token
  low_if s e a a' None h u = at_form s (f.If e a' None) (h ∙ ap (λ (z : Stmt). If e z None) (sym u) ∙ sym (rolls-If e a' None))
  low_if s e a a' (Some b) h u = at_form s (f.If e a' (Some b)) (h ∙ ap (λ (z : Stmt). If e z (Some b)) (sym u) ∙ sym (rolls-If e a' (Some b)))

  pub low_while : (s : Stmt) (e : Expr) (b b' : Stmt) → s.form ≡ While e b → b' ≡ b → low_stmt P g s ≡ loop_low P (part_of P e) (low_stmt P g b') s.token
  low_while s e b b' h u = at_form s (f.While e b') (h ∙ ap (While e) (sym u) ∙ sym (rolls-While e b'))

  pub low_for : (s : Stmt) (a a' : Stmt) (e : Expr) (l l' b b' : Stmt) → s.form ≡ For a e l b → a' ≡ a → l' ≡ l → b' ≡ b → low_stmt P g s ≡ for_low P (low_stmt P g a') (part_of P e) (low_stmt P g l') (low_stmt P g b') s.token
  low_for s a a' e l l' b b' h u v w = at_form s (f.For a' e l' b') (h ∙ (λ i. For (sym u i) e (sym v i) (sym w i)) ∙ sym (rolls-For a' e l' b'))

  pub low_return : (s : Stmt) (e : Option Expr) → s.form ≡ Return e → low_stmt P g s ≡ return_low P g (option_map (part_of P) e) s.id s.token
  low_return s e h = at_form s (f.Return e) (h ∙ sym (rolls-Return e))

  pub low_print : (s : Stmt) (e : Expr) → s.form ≡ Print e → low_stmt P g s ≡ print_low P (part_of P e) s.token
  low_print s e h = at_form s (f.Print e) (h ∙ sym (rolls-Print e))

pub ruleset lowers = (low_block, low_empty, low_local, low_assign, low_compound, low_up, low_down, low_call, low_if, low_while, low_for, low_return, low_print)

-- ---- ends

completes_at : (s : Stmt) (x : StmtForm-F StmtForm Stmt) → s.form ≡ roll-StmtForm x → completes s ≡ completes_step (map-StmtForm StmtForm Stmt Bool Bool (fold-StmtForm Bool Bool completes_step whole) completes x)
unfolding completes
completes_at s x h =
    fold_out-Stmt Bool Bool completes_step whole s ∙ ap (fold-StmtForm Bool Bool completes_step whole) h
    ∙ fold-roll-StmtForm Bool Bool completes_step whole x

pub completes_block : (s : Stmt) (items : List Stmt) → s.form ≡ Block items → completes s ≡ last_completes true (map completes items)
completes_block s items h = completes_at s (f.Block items) (h ∙ sym (rolls-Block items))

pub completes_return : (s : Stmt) (e : Option Expr) → s.form ≡ Return e → completes s ≡ false
completes_return s e h = completes_at s (f.Return e) (h ∙ sym (rolls-Return e))

pub completes_if : (s : Stmt) (e : Expr) (a a' : Stmt) (b : Option Stmt) → s.form ≡ If e a b → a' ≡ a → completes s ≡ either_completes (completes a') (option_map completes b)
completes_if s e a a' None h u = completes_at s (f.If e a' None) (h ∙ ap (λ (z : Stmt). If e z None) (sym u) ∙ sym (rolls-If e a' None))
completes_if s e a a' (Some b) h u = completes_at s (f.If e a' (Some b)) (h ∙ ap (λ (z : Stmt). If e z (Some b)) (sym u) ∙ sym (rolls-If e a' (Some b)))

abbrev EndOf : StmtForm → Type 0
EndOf form = ((items : List Stmt) → form ≡ Block items → ⊥) → ((e : Option Expr) → form ≡ Return e → ⊥) → ((e : Expr) (a : Stmt) (b : Option Stmt) → form ≡ If e a b → ⊥) → fold-StmtForm Bool Bool completes_step whole form ≡ true

end_of : (x : StmtForm-F StmtForm Stmt) → EndOf (roll-StmtForm x)
end_of (f.Block items) a b c = absurd (a items (rolls-Block items))
end_of f.Empty a b c = fold-roll-StmtForm Bool Bool completes_step whole f.Empty
end_of (f.Local t n e) a b c = fold-roll-StmtForm Bool Bool completes_step whole (f.Local t n e)
end_of (f.Assign p e) a b c = fold-roll-StmtForm Bool Bool completes_step whole (f.Assign p e)
end_of (f.Compound n s e) a b c = fold-roll-StmtForm Bool Bool completes_step whole (f.Compound n s e)
end_of (f.Up n) a b c = fold-roll-StmtForm Bool Bool completes_step whole (f.Up n)
end_of (f.Down n) a b c = fold-roll-StmtForm Bool Bool completes_step whole (f.Down n)
end_of (f.Call e) a b c = fold-roll-StmtForm Bool Bool completes_step whole (f.Call e)
end_of (f.If e s n) a b c = absurd (c e s n (rolls-If e s n))
end_of (f.While e s) a b c = fold-roll-StmtForm Bool Bool completes_step whole (f.While e s)
end_of (f.For i e l s) a b c = fold-roll-StmtForm Bool Bool completes_step whole (f.For i e l s)
end_of (f.Return e) a b c = absurd (b e (rolls-Return e))
end_of (f.Print e) a b c = fold-roll-StmtForm Bool Bool completes_step whole (f.Print e)

pub completes_other : (s : Stmt) → ((items : List Stmt) → s.form ≡ Block items → ⊥) → ((e : Option Expr) → s.form ≡ Return e → ⊥) → ((e : Expr) (a : Stmt) (b : Option Stmt) → s.form ≡ If e a b → ⊥) → completes s ≡ true
unfolding completes
completes_other s a b c =
    let form : EndOf s.form = ind-StmtForm EndOf (λ e. Unit {0}) (λ x y h. end_of x) (λ x y h. tt) s.form in
    fold_out-Stmt Bool Bool completes_step whole s ∙ form a b c

pub ruleset completing = (completes_block, completes_return, completes_if, completes_other)
