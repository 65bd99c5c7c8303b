-- A statement adds few slots.
use Rattle.std.proofs.Common.{◌≡◌, ℕ, ◌+◌, ◌≤◌, Bool, true, false, List, [], ◌∷◌, length-append, map, Option, Some, None, refl, sym, ap, ◌∙◌, subst, arith}
use Rattle.px_value.specs.declared.op.Op.{Op}
use Rattle.px_value.specs.declared.op.Op.TheVariants as op
use Rattle.px_tree.specs.declared.Expr.{Expr}
use Rattle.px_tree.specs.declared.ExprForm.{ExprForm, ExprForm-F, out-ExprForm, out-roll-ExprForm, roll-ExprForm}
use Rattle.px_tree.specs.declared.ExprForm.TheVariants as e
use Rattle.px_tree.specs.declared.ExprForm.TheOpen.{ExprForm-F as f}
use Rattle.px_tree.specs.declared.Stmt.{Stmt, fold_out-Stmt}
use Rattle.px_tree.specs.declared.StmtForm.{StmtForm, StmtForm-F, fold-StmtForm, fold-roll-StmtForm, roll-StmtForm, map-StmtForm}
use Rattle.px_tree.specs.declared.StmtForm.TheVariants as st
use Rattle.px_tree.specs.declared.StmtForm.TheOpen.{StmtForm-F as g}
use Rattle.px_facts.specs.declared.types.Ty.{Ty as Static}
use Rattle.px_facts.specs.declared.types.Ty.TheVariants as static
use Rattle.px_facts.specs.Types.{is_void}
use Rattle.px_facts.specs.declared.checked.Checked.{Checked}
use Rattle.px_facts.specs.declared.checked.Named.{Named}
use Rattle.px_facts.specs.declared.checked.Named.TheVariants as named
use Rattle.px_mean.specs.Facts.{type_at, named_at, op_of}
use Rattle.px_mean.specs.Typing as typing
use Rattle.px_mean.specs.Typing.{IsVariable, IsMember, IsTypedExpr, IsTypedStmt, AreTypedStmts}
use Rattle.px_normal.specs.declared.node.Counter.TheVariants.{Completed}
use Rattle.px_lowering.specs.declared.draft.Draft.{Draft}
use Rattle.px_lowering.specs.declared.valued.Step.TheVariants as step
use Rattle.px_lowering.specs.declared.valued.Had.{Had}
use Rattle.px_lowering.specs.declared.valued.Had.TheVariants.{Held, Chosen, Made}
use Rattle.px_lowering.specs.Emit.{noded, with_trees}
use Rattle.px_lowering.specs.Expressions.{operand_at, fit_to, low, part_of, put_name, put_member, put_element, put_form, put_low}
use Rattle.px_lowering.specs.Statements.{whole, Steps, lower_all, lower_if, store, compound_low, by_one_low, without_result, unused, if_low, loop_low, low_stmt}
use Rattle.px_lowering.proofs.StmtForms.{low_block, low_empty, low_local, low_assign, low_compound, low_up, low_down, low_call, low_if, low_while, low_for, low_return, low_print}
use Rattle.px_typed_code.specs.Sizes.{total, expressions, step as parts_step, parts}
use Rattle.px_typed_code.proofs.Few as few

pub parts_at : (s : Stmt) (x : StmtForm-F StmtForm Stmt) → s.form ≡ roll-StmtForm x → parts s ≡ parts_step (map-StmtForm StmtForm Stmt ℕ ℕ (fold-StmtForm ℕ ℕ parts_step whole) parts x)
unfolding parts
parts_at s x h =
    fold_out-Stmt ℕ ℕ parts_step whole s ∙ ap (fold-StmtForm ℕ ℕ parts_step whole) h
    ∙ fold-roll-StmtForm ℕ ℕ parts_step whole x

abbrev count : Draft → ℕ
count = few.count

module _ (P : Checked) (locals : List Static) (result : Static) where
  -- statements with so many expressions add two slots for each
  abbrev FewSteps : ℕ → Steps → Type 0
  FewSteps n l = (o : Draft) → count (l o) ≤ count o + (n + n)

  few_by : (x : Stmt) (n : ℕ) (l : Steps) → low_stmt P result x ≡ l → parts x ≡ n → FewSteps n l → FewSteps (parts x) (low_stmt P result x)
  few_by x n l e q h = subst (λ (k : ℕ). FewSteps k (low_stmt P result x)) (sym q) (subst (λ (k : Steps). FewSteps n k) (sym e) h)

  abbrev FewOf : Expr → Type 0
  FewOf y = few.Few P (expressions y) (low P y).part.lower

  -- ---- assignments

  put_variable : (n : Named) (t : Static) (y : Expr) (token : ℕ) → IsVariable P.facts locals n t → FewOf y → FewSteps (expressions y) (put_name P n t (part_of P y) token)
  put_variable _ _ y token (typing.IsVariable.local slot t e) h o =
      let l = fit_to P t (part_of P y) o in
      omega (arith, few.fit_few P y t h o, few.slotted_count P slot token l.value.id l.value.token l.value.had l.out)
  put_variable _ _ y token (typing.IsVariable.field class place t e q) h o = few.fitted_few P y t h o

  put_held : (n : Named) (held t : Static) (of y : Expr) (token : ℕ) → IsMember P.facts n held t → FewOf of → FewOf y → FewSteps (expressions of + expressions y) (put_member P n t (part_of P of) (part_of P y) token)
  put_held _ _ _ of y token (typing.IsMember.field class place t q) k h o = omega (arith, few.operand_few P of k o, few.fitted_few P y t h (operand_at P (part_of P of) o).out)
  put_held _ _ _ of y token (typing.IsMember.array_length t) k h o = omega (arith, few.operand_few P of k o, few.fitted_few P y static.Int h (operand_at P (part_of P of) o).out)

  put_indexed : (t : Static) (of index y : Expr) (token : ℕ) → FewOf of → FewOf index → FewOf y → FewSteps (expressions of + expressions index + expressions y) (put_element P t (part_of P of) (part_of P index) (part_of P y) token)
  put_indexed t of index y token k l h o =
      let a = operand_at P (part_of P of) o in
      let i = operand_at P (part_of P index) a.out in
      omega (arith, few.operand_few P of k o, few.operand_few P index l a.out, few.fitted_few P y t h i.out)

  rolled : (place : Expr) (y : ExprForm-F ExprForm Expr) → place.form ≡ roll-ExprForm y → out-ExprForm place.form ≡ y
  rolled place y h = ap out-ExprForm h ∙ out-roll-ExprForm y

  -- by the form of the place, which has so many expressions in it
  put_at : (place y : Expr) (token n : ℕ) (form : ExprForm-F ExprForm Expr) → place.form ≡ roll-ExprForm form → n ≤ expressions place → FewSteps (n + expressions y) (put_form P form place.id (part_of P y) token) → FewSteps (expressions place + expressions y) (put_low P place (part_of P y) token)
  put_at place y token n form e k h o = subst (λ x. count (put_form P x place.id (part_of P y) token o) ≤ count o + ((expressions place + expressions y) + (expressions place + expressions y))) (sym (rolled place form e)) (omega (arith, k, h o))

  put_none : (place y : Expr) (token : ℕ) (form : ExprForm-F ExprForm Expr) → place.form ≡ roll-ExprForm form → ((o : Draft) → count (put_form P form place.id (part_of P y) token o) ≡ count o) → FewSteps (expressions place + expressions y) (put_low P place (part_of P y) token)
  put_none place y token form e h = put_at place y token 0 form e (omega arith) (λ o. omega (arith, h o))

  more_of : (n m : ℕ) → m ≡ 1 + n → n ≤ m
  more_of n m e = omega (arith, e)

  assigned : (place y : Expr) (token : ℕ) → IsTypedExpr P.facts locals place → FewOf y → FewSteps (expressions place + expressions y) (put_low P place (part_of P y) token)
  assigned _ y token (typing.IsTypedExpr.variable x n h v) k = put_at x y token 0 (f.Name n) (h ∙ sym (e.rolls-Name n)) (omega arith) (λ o. omega (arith, put_variable (named_at P.facts x.id) (type_at P.facts x.id) y token v k o))
  assigned _ y token (typing.IsTypedExpr.field x of n h m j) k = put_at x y token (expressions of) (f.Field of n) (h ∙ sym (e.rolls-Field of n)) (more_of (expressions of) (expressions x) (few.parts_at x (f.Field of n) (h ∙ sym (e.rolls-Field of n)))) (put_held (named_at P.facts x.id) (type_at P.facts of.id) (type_at P.facts x.id) of y token m (few.few P locals of j) k)
  assigned _ y token (typing.IsTypedExpr.indexed x of index t h d e1 j l) k = put_at x y token (expressions of + expressions index) (f.Index of index) (h ∙ sym (e.rolls-Index of index)) (more_of (expressions of + expressions index) (expressions x) (few.parts_at x (f.Index of index) (h ∙ sym (e.rolls-Index of index)))) (put_indexed (type_at P.facts x.id) of index y token (few.few P locals of j) (few.few P locals index l) k)
  assigned _ y token (typing.IsTypedExpr.number x digits long h e1) k = put_none x y token (f.Number digits long) (h ∙ sym (e.rolls-Number digits long)) (λ o. refl)
  assigned _ y token (typing.IsTypedExpr.text x bytes h e1) k = put_none x y token (f.Str bytes) (h ∙ sym (e.rolls-Str bytes)) (λ o. refl)
  assigned _ y token (typing.IsTypedExpr.truth x h e1) k = put_none x y token f.True (h ∙ sym e.rolls-True) (λ o. refl)
  assigned _ y token (typing.IsTypedExpr.falsehood x h e1) k = put_none x y token f.False (h ∙ sym e.rolls-False) (λ o. refl)
  assigned _ y token (typing.IsTypedExpr.null x h e1) k = put_none x y token f.Null (h ∙ sym e.rolls-Null) (λ o. refl)
  assigned _ y token (typing.IsTypedExpr.this x h e1) k = put_none x y token f.This (h ∙ sym e.rolls-This) (λ o. refl)
  assigned _ y token (typing.IsTypedExpr.group x inner h e1 j) k = put_none x y token (f.Group inner) (h ∙ sym (e.rolls-Group inner)) (λ o. refl)
  assigned _ y token (typing.IsTypedExpr.call x of n args method fact h e1 d c r a) k = put_none x y token (f.Call of n args) (h ∙ sym (e.rolls-Call of n args)) (λ o. refl)
  assigned _ y token (typing.IsTypedExpr.library x of n args params h l j a) k = put_none x y token (f.Call (Some of) n args) (h ∙ sym (e.rolls-Call (Some of) n args)) (λ o. refl)
  assigned _ y token (typing.IsTypedExpr.query x of n written args number site c h e1 l d p a) k = put_none x y token (f.Call of n (written ∷ args)) (h ∙ sym (e.rolls-Call of n (written ∷ args))) (λ o. refl)
  assigned _ y token (typing.IsTypedExpr.update x of n written args number c h e1 l b d p a) k = put_none x y token (f.Call of n (written ∷ args)) (h ∙ sym (e.rolls-Call of n (written ∷ args))) (λ o. refl)
  assigned _ y token (typing.IsTypedExpr.new_object x n class site h e1 d) k = put_none x y token (f.NewObject n) (h ∙ sym (e.rolls-NewObject n)) (λ o. refl)
  assigned _ y token (typing.IsTypedExpr.new_array x n b site t h e1 d j) k = put_none x y token (f.NewArray b n) (h ∙ sym (e.rolls-NewArray b n)) (λ o. refl)
  assigned _ y token (typing.IsTypedExpr.prefix x z s h c j) k = put_none x y token (f.Prefix s z) (h ∙ sym (e.rolls-Prefix s z)) (λ o. refl)
  assigned _ y token (typing.IsTypedExpr.binary x l r s at h c a b) k = put_none x y token (f.Binary s at l r) (h ∙ sym (e.rolls-Binary s at l r)) (λ o. refl)

  -- ---- locals and calls

  stored : (n : Named) (slot : ℕ) (t : Static) (y : Expr) (token : ℕ) → n ≡ named.Local slot → FewOf y → FewSteps (expressions y) (λ o. store P n token (fit_to P t (part_of P y) o))
  stored n slot t y token q h o = subst (λ m. count (store P m token (fit_to P t (part_of P y) o)) ≤ count o + (expressions y + expressions y)) (sym q) (
      let l = fit_to P t (part_of P y) o in
      omega (arith, few.fit_few P y t h o, few.slotted_count P slot token l.value.id l.value.token l.value.had l.out))

  compounded : (n : Named) (slot : ℕ) (s : Op) (y : Expr) (token : ℕ) → n ≡ named.Local slot → FewOf y → FewSteps (expressions y) (compound_low P n s (part_of P y) token)
  compounded n slot s y token q h o = subst (λ m. count (compound_low P m s (part_of P y) token o) ≤ count o + (expressions y + expressions y)) (sym q) (omega (arith, few.operand_few P y h o))

  by_one : (n : Named) (slot : ℕ) (s : Op) (id token : ℕ) → n ≡ named.Local slot → FewSteps 0 (by_one_low P n s id token)
  by_one n slot s id token q o = subst (λ m. count (by_one_low P m s id token o) ≤ count o + (0 + 0)) (sym q) (omega arith)

  left_out : (token : ℕ) (had : Had) (o : Draft) → count (without_result P token had o) ≤ count o + few.need had
  left_out token (Held a) o = omega arith
  left_out token (Chosen slot) o = omega arith
  left_out token (Made (step.Call of method args) u counter) o = omega arith
  left_out token (Made (step.Op o' a b) u counter) o = omega (arith, length-append o.slots (u ∷ []))
  left_out token (Made (step.Get a class field) u counter) o = omega (arith, length-append o.slots (u ∷ []))
  left_out token (Made (step.Load a i) u counter) o = omega (arith, length-append o.slots (u ∷ []))
  left_out token (Made (step.Len a) u counter) o = omega (arith, length-append o.slots (u ∷ []))
  left_out token (Made (step.New class site) u counter) o = omega (arith, length-append o.slots (u ∷ []))
  left_out token (Made (step.Array element n site) u counter) o = omega (arith, length-append o.slots (u ∷ []))
  left_out token (Made (step.Query statement site params) u counter) o = omega (arith, length-append o.slots (u ∷ []))
  left_out token (Made (step.Update statement params) u counter) o = omega (arith, length-append o.slots (u ∷ []))
  left_out token (Made (step.Next a) u counter) o = omega (arith, length-append o.slots (u ∷ []))
  left_out token (Made (step.Long a i) u counter) o = omega (arith, length-append o.slots (u ∷ []))
  left_out token (Made (step.Text a i) u counter) o = omega (arith, length-append o.slots (u ∷ []))

  unused_few : (b : Bool) (y : Expr) → FewOf y → FewSteps (expressions y) (λ o. unused P b ((low P y).part.lower o))
  unused_few true y h o = let l = (low P y).part.lower o in omega (arith, h o, left_out l.value.token l.value.had l.out)
  unused_few false y h o = omega (arith, few.operand_few P y h o)

  -- ---- branches and loops

  if_few : (test : Expr) (yes' : Steps) (no' : Option Steps) (token a b : ℕ) → FewOf test → FewSteps a yes' → FewSteps b (lower_if no') → FewSteps (expressions test + (a + b)) (if_low P (part_of P test) yes' no' token)
  if_few test yes' no' token a b h k l o =
      let x = operand_at P (part_of P test) o in
      let o3 = with_trees [] (noded P token (Completed test.id) x.out) in
      let y = yes' o3 in
      omega (arith, few.operand_few P test h o, k o3, l (with_trees [] y))

  loop_few : (test : Expr) (body : Steps) (token n : ℕ) → FewOf test → FewSteps n body → FewSteps (expressions test + n) (loop_low P (part_of P test) body token)
  loop_few test body token n h k o =
      let x = operand_at P (part_of P test) (with_trees [] o) in
      omega (arith, few.operand_few P test h (with_trees [] o), k (with_trees [] (noded P token (Completed test.id) x.out)))

  after : (n m : ℕ) (a b : Steps) → FewSteps n a → FewSteps m b → FewSteps (n + m) (λ o. b (a o))
  after n m a b h k o = omega (arith, h o, k (a o))

  swapped : (n m : ℕ) (a : Steps) → FewSteps (n + m) a → FewSteps (m + n) a
  swapped n m a h o = omega (arith, h o)

  -- ---- all statements

  mutual
    pub few_statement : (c : Bool) (x : Stmt) → IsTypedStmt P.facts locals result c x → FewSteps (parts x) (low_stmt P result x)
    few_statement _ _ (typing.IsTypedStmt.block x items c h t) = few_by x _ _ (low_block P result x items h) (parts_at x (g.Block items) (h ∙ sym (st.rolls-Block items))) (few_items c items t)
    few_statement _ _ (typing.IsTypedStmt.empty x h) = few_by x _ _ (low_empty P result x h) (parts_at x g.Empty (h ∙ sym st.rolls-Empty)) (λ o. omega arith)
    few_statement _ _ (typing.IsTypedStmt.local x t n y h w k d) = few_by x _ _ (low_local P result x t n y h) (parts_at x (g.Local t n y) (h ∙ sym (st.rolls-Local t n y))) (stored (named_at P.facts x.id) w.0 (type_at P.facts x.id) y x.token w.1 (few.few P locals y d))
    few_statement _ _ (typing.IsTypedStmt.assign x place y h k d i) = few_by x _ _ (low_assign P result x place y h) (parts_at x (g.Assign place y) (h ∙ sym (st.rolls-Assign place y))) (assigned place y x.token d (few.few P locals y i))
    few_statement _ _ (typing.IsTypedStmt.compound x n s y h w k d) = few_by x _ _ (low_compound P result x n s y h) (parts_at x (g.Compound n s y) (h ∙ sym (st.rolls-Compound n s y))) (compounded (named_at P.facts x.id) w.0 (op_of s (type_at P.facts x.id) (type_at P.facts y.id)) y x.token w.1 (few.few P locals y d))
    few_statement _ _ (typing.IsTypedStmt.up x n h w p) = few_by x _ _ (low_up P result x n h) (parts_at x (g.Up n) (h ∙ sym (st.rolls-Up n))) (by_one (named_at P.facts x.id) w.0 op.Add x.id x.token w.1)
    few_statement _ _ (typing.IsTypedStmt.down x n h w p) = few_by x _ _ (low_down P result x n h) (parts_at x (g.Down n) (h ∙ sym (st.rolls-Down n))) (by_one (named_at P.facts x.id) w.0 op.Sub x.id x.token w.1)
    few_statement _ _ (typing.IsTypedStmt.call x y h d) = few_by x _ _ (low_call P result x y h) (parts_at x (g.Call y) (h ∙ sym (st.rolls-Call y))) (unused_few (is_void (type_at P.facts y.id)) y (few.few P locals y d))
    few_statement _ _ (typing.IsTypedStmt.if_else x test a b c d h k i j) = few_by x _ _ (low_if P result x test a a (Some b) h refl) (parts_at x (g.If test a (Some b)) (h ∙ sym (st.rolls-If test a (Some b)))) (if_few test (low_stmt P result a) (Some (low_stmt P result b)) x.token (parts a) (parts b) (few.few P locals test k) (few_statement c a i) (few_statement d b j))
    few_statement _ _ (typing.IsTypedStmt.if_only x test a c h k i) = few_by x _ _ (low_if P result x test a a None h refl) (parts_at x (g.If test a None) (h ∙ sym (st.rolls-If test a None))) (if_few test (low_stmt P result a) None x.token (parts a) 0 (few.few P locals test k) (few_statement c a i) (λ o. omega arith))
    few_statement _ _ (typing.IsTypedStmt.while x test body c h k i) = few_by x _ _ (low_while P result x test body body h refl) (parts_at x (g.While test body) (h ∙ sym (st.rolls-While test body))) (loop_few test (low_stmt P result body) x.token (parts body) (few.few P locals test k) (few_statement c body i))
    few_statement _ _ (typing.IsTypedStmt.for_loop x begin test last body b c d h i k j l) = few_by x _ _ (low_for P result x begin begin test last last body body h refl refl refl) (parts_at x (g.For begin test last body) (h ∙ sym (st.rolls-For begin test last body)))
        (let both = swapped (parts body) (parts last) (λ o. low_stmt P result last (low_stmt P result body o)) (after (parts body) (parts last) (low_stmt P result body) (low_stmt P result last) (few_statement d body l) (few_statement c last j)) in
        let inside = loop_few test (λ o. low_stmt P result last (low_stmt P result body o)) x.token (parts last + parts body) (few.few P locals test k) both in
        after (parts begin) (expressions test + (parts last + parts body)) (low_stmt P result begin) (loop_low P (part_of P test) (λ o. low_stmt P result last (low_stmt P result body o)) x.token) (few_statement b begin i) inside)
    few_statement _ _ (typing.IsTypedStmt.leave x h q) = few_by x _ _ (low_return P result x None h) (parts_at x (g.Return None) (h ∙ sym (st.rolls-Return None))) (λ o. omega arith)
    few_statement _ _ (typing.IsTypedStmt.give x y h k d) = few_by x _ _ (low_return P result x (Some y) h) (parts_at x (g.Return (Some y)) (h ∙ sym (st.rolls-Return (Some y)))) (few.fitted_few P y result (few.few P locals y d))
    few_statement _ _ (typing.IsTypedStmt.print x y h d) = few_by x _ _ (low_print P result x y h) (parts_at x (g.Print y) (h ∙ sym (st.rolls-Print y))) (λ o. omega (arith, few.operand_few P y (few.few P locals y d) o))

    few_items : (c : Bool) (xs : List Stmt) → AreTypedStmts P.facts locals result c xs → FewSteps (total (map parts xs)) (lower_all (map (low_stmt P result) xs))
    few_items _ _ typing.AreTypedStmts.none o = omega arith
    few_items _ _ (typing.AreTypedStmts.last x c t) o = omega (arith, few_statement c x t o)
    few_items _ _ (typing.AreTypedStmts.more x xs c d t ts) o = omega (arith, few_statement c x t o, few_items d xs ts (low_stmt P result x o))
