-- What a statement is lowered to is typed, and doesn't run past its end where the statement can't complete normally.
use Rattle.std.proofs.Common.{◌++◌, ◌≡◌, ℕ, suc, ◌+◌, Bool, true, false, ◌||◌, List, [], ◌∷◌, length, map, Option, Some, None, slice_get, refl, sym, ap, ◌∙◌, subst, length-append}
use Rattle.px_value.specs.declared.op.Op.{Op}
use Rattle.px_value.specs.declared.op.Op.TheVariants as op
use Rattle.px_tree.specs.declared.Expr.{Expr}
use Rattle.px_tree.specs.declared.ExprForm.{ExprForm, ExprForm-F, out-ExprForm, out-roll-ExprForm, roll-ExprForm}
use Rattle.px_tree.specs.declared.ExprForm.TheVariants.{rolls-Number, rolls-Str, rolls-True, rolls-False, rolls-Null, rolls-This, rolls-Name, rolls-Group, rolls-Field, rolls-Index, rolls-Call, rolls-NewObject, rolls-NewArray, rolls-Prefix, rolls-Binary}
use Rattle.px_tree.specs.declared.ExprForm.TheOpen.{ExprForm-F as f}
use Rattle.px_tree.specs.declared.Stmt.{Stmt, fold_out-Stmt}
use Rattle.px_tree.specs.declared.StmtForm.{StmtForm, StmtForm-F, fold-StmtForm, fold-roll-StmtForm, roll-StmtForm, map-StmtForm}
use Rattle.px_tree.specs.declared.StmtForm.TheVariants as st
use Rattle.px_tree.specs.declared.StmtForm.TheOpen.{StmtForm-F as g}
use Rattle.px_facts.specs.declared.types.Ty.{Ty as Static}
use Rattle.px_facts.specs.declared.types.Ty.TheVariants as static
use Rattle.px_facts.specs.declared.types.Element.{Element}
use Rattle.px_facts.specs.Types.{is_void, is_printable, element_type as static_element}
use Rattle.px_facts.specs.declared.checked.Checked.{Checked}
use Rattle.px_facts.specs.declared.checked.Named.{Named}
use Rattle.px_facts.specs.declared.checked.Named.TheVariants as named
use Rattle.px_facts.specs.declared.checked.Facts.{Facts}
use Rattle.px_mean.specs.Facts.{type_at, named_at, fields_of, op_of, element_number}
use Rattle.px_mean.specs.Statements.{one}
use Rattle.px_mean.specs.Typing as typing
use Rattle.px_mean.specs.Typing.{Promotes, GivesType, Fits, IsVariable, IsMember, IsTypedExpr, WritesLocal, IsTypedStmt, AreTypedStmts}
use Rattle.px_normal.specs.declared.ty.Ty.{Ty}
use Rattle.px_normal.specs.declared.ty.Ty.TheVariants as ty
use Rattle.px_normal.specs.declared.word.Operand.{Operand}
use Rattle.px_normal.specs.declared.word.Operand.TheVariants.{Slot, Literal}
use Rattle.px_normal.specs.declared.word.Word.TheVariants as w
use Rattle.px_normal.specs.declared.node.Counter.{Counter}
use Rattle.px_normal.specs.declared.node.Counter.TheVariants.{Begun, Completed}
use Rattle.px_normal.specs.declared.method.Tree.TheVariants.{If, Loop}
use Rattle.px_normal.specs.declared.code.Code.{Code}
use Rattle.px_normal.specs.Typed as typed
use Rattle.px_normal.specs.Typed.{IsNode, IsLiteral, HasSlot, HasTy, is_printed, IsTypedTree, AreTypedTrees, Stops}
use Rattle.px_lowering.specs.declared.draft.Draft.{Draft}
use Rattle.px_lowering.specs.declared.valued.Step.TheVariants as step
use Rattle.px_lowering.specs.declared.valued.Had.{Had}
use Rattle.px_lowering.specs.declared.valued.Had.TheVariants.{Held, Chosen, Made}
use Rattle.px_lowering.specs.Types.{code_type, code_result}
use Rattle.px_lowering.specs.Emit.{Lasted, Operated, node_at, noded, with_trees, emitted, slot_of}
use Rattle.px_lowering.specs.Expressions.{operand_at, fit_to, fitted_operand, low, part_of, put_name, put_member, put_element, put_form, put_low}
use Rattle.px_lowering.specs.Statements.{whole, last_completes, completes_step, completes, Steps, lower_all, lower_if, store, change, compound_low, by_one_low, without_result, unused, branched, if_low, loop_low, return_low, print_low, low_stmt}
use Rattle.px_lowering.proofs.StmtForms.{completes_block, completes_return, completes_if, low_block, low_empty, low_local, low_assign, low_compound, low_up, low_down, low_call, low_if, low_while, low_for, low_return, low_print}
use Rattle.px_uses.specs.Uses as uses
use Rattle.px_uses.specs.Uses.{joins, IsUsed, IsIn, IsInner, IsAskedOf, AreUsed}
use Rattle.px_typed_code.specs.Values.{is_value}
use Rattle.px_typed_code.specs.Nodes.{all_nodes}
use Rattle.px_typed_code.proofs.Counted.{counted_then, counted_none, counted_first, counted_by, nodes_if, nodes_loop, all_next}
use Rattle.px_typed_code.proofs.Operators.{IsPlain, GivesCode, gives_code, never, never_so}
use Rattle.px_typed_code.proofs.Drafts.{grows_none, grows_append, OperandFits, has_ty, ty_more, HadFits, Goes, goes_none, goes_then, trees_next, node_is, adds_node, emits, Fine, FineOperand, slotted_goes}
use Rattle.px_typed_code.proofs.Around.{IsCodeOf, value_plain, element_plain, element_is, result_some}
use Rattle.px_typed_code.proofs.Expressions as expressions

printed_plain : (t : Static) → is_printable t ≡ true → (is_printed (code_type t) ≡ true) × (is_void t ≡ false)
printed_plain static.Unknown h = (refl, refl)
printed_plain static.Void h = never_so h
printed_plain static.Null h = never_so h
printed_plain static.Int h = (refl, refl)
printed_plain static.Long h = (refl, refl)
printed_plain static.Boolean h = (refl, refl)
printed_plain static.Text h = (refl, refl)
printed_plain (static.Object class) h = never_so h
printed_plain (static.Array of) h = never_so h
printed_plain static.ResultSet h = never_so h

one_typed : (t : Static) → Promotes t t t → IsLiteral (one t) (code_type t)
one_typed _ typing.Promotes.ints = refl
one_typed _ typing.Promotes.longs = refl

-- ---- what can complete

-- neither can complete
neither : (c d : Bool) → (c || d) ≡ false → (c ≡ false) × (d ≡ false)
neither true d h = never h
neither false d h = (refl, h)

completes_at : (s : Stmt) (x : StmtForm-F StmtForm Stmt) → s.form ≡ roll-StmtForm x → completes s ≡ completes_step (map-StmtForm StmtForm Stmt Bool Bool (fold-StmtForm Bool Bool completes_step whole) completes x)
unfolding completes
completes_at s x h =
    fold_out-Stmt Bool Bool completes_step whole s ∙ ap (fold-StmtForm Bool Bool completes_step whole) h
    ∙ fold-roll-StmtForm Bool Bool completes_step whole x

-- what can't complete by the typing rules, can't
mutual
  pub stops_too : (F : Facts) (slots : List Static) (result : Static) (c : Bool) (x : Stmt) → IsTypedStmt F slots result c x → c ≡ false → completes x ≡ false
  stops_too F slots result _ _ (typing.IsTypedStmt.block x items c h t) e = completes_block x items h ∙ items_stop F slots result c items t true e
  stops_too F slots result _ _ (typing.IsTypedStmt.if_else x test a b c d h k i j) e = let n = neither c d e in completes_if x test a a (Some b) h refl ∙ (λ z. stops_too F slots result c a i n.0 z || stops_too F slots result d b j n.1 z)
  stops_too F slots result _ _ (typing.IsTypedStmt.leave x h k) e = completes_return x None h
  stops_too F slots result _ _ (typing.IsTypedStmt.give x y h k t) e = completes_return x (Some y) h
  stops_too F slots result _ _ (typing.IsTypedStmt.empty x h) e = never e
  stops_too F slots result _ _ (typing.IsTypedStmt.local x t n y h w k i) e = never e
  stops_too F slots result _ _ (typing.IsTypedStmt.assign x p y h k i j) e = never e
  stops_too F slots result _ _ (typing.IsTypedStmt.compound x n o y h w k i) e = never e
  stops_too F slots result _ _ (typing.IsTypedStmt.up x n h w p) e = never e
  stops_too F slots result _ _ (typing.IsTypedStmt.down x n h w p) e = never e
  stops_too F slots result _ _ (typing.IsTypedStmt.call x y h k) e = never e
  stops_too F slots result _ _ (typing.IsTypedStmt.if_only x test a c h k i) e = never e
  stops_too F slots result _ _ (typing.IsTypedStmt.while x test body c h k i) e = never e
  stops_too F slots result _ _ (typing.IsTypedStmt.for_loop x begin test last body b c d h i j k l) e = never e
  stops_too F slots result _ _ (typing.IsTypedStmt.print x y h k) e = never e

  items_stop : (F : Facts) (slots : List Static) (result : Static) (c : Bool) (xs : List Stmt) → AreTypedStmts F slots result c xs → (before : Bool) → c ≡ false → last_completes before (map completes xs) ≡ false
  items_stop F slots result _ _ typing.AreTypedStmts.none before e = never e
  items_stop F slots result _ _ (typing.AreTypedStmts.last x c t) before e = stops_too F slots result c x t e
  items_stop F slots result _ _ (typing.AreTypedStmts.more x xs c d t ts) before e = items_stop F slots result d xs ts (completes x) e

module _ (P : Checked) (C : Code) (code : IsCodeOf P.facts C) (locals : List Static) (values : (place : ℕ) (t : Static) → slice_get locals place ≡ Some t → is_value t ≡ true) (result : Static) where
  abbrev F : Facts
  F = P.facts

  abbrev gives : Option Ty
  gives = code_result result

  abbrev Stands : Draft → Type 0
  Stands o = expressions.Stands P C gives code locals values o

  abbrev GoesTo : Draft → Draft → Type 0
  GoesTo = Goes P C gives

  then : (a b c : Draft) → GoesTo a b → GoesTo b c → GoesTo a c
  then a b c g h = goes_then P C gives a b c g h

  stands : (a b : Draft) → Stands a → GoesTo a b → Stands b
  stands a b s g = expressions.stands_then P C gives code locals values a b s g

  -- what is lowered of a statement that can or can't complete normally
  pub record IsFine (c : Bool) (l : Steps) : Type 0 where
    pub goes : (o : Draft) → Stands o → GoesTo o (l o)
    pub ends : (o : Draft) → c ≡ false → Stops (l o).trees

  fine_by : (b c : Bool) (l m : Steps) → b ≡ c → l ≡ m → IsFine c m → IsFine b l
  fine_by b c l m q e h = subst (λ k. IsFine k l) (sym q) (subst (λ k. IsFine c k) (sym e) h)

  -- a list of statements, behind what can or can't complete
  record AreFine (xs : List Stmt) : Type 0 where
    goes : (o : Draft) → Stands o → GoesTo o (lower_all (map (low_stmt P result) xs) o)
    ends : (before : Bool) (o : Draft) → last_completes before (map completes xs) ≡ false → (before ≡ false → Stops o.trees) → Stops (lower_all (map (low_stmt P result) xs) o).trees

  -- one that can complete
  goes_on : (l : Steps) → ((o : Draft) → Stands o → GoesTo o (l o)) → IsFine true l
  goes_on l h = record { goes = h; ends = λ o e. never e }

  means : (y : Expr) → IsTypedExpr F locals y → IsUsed F y → (o : Draft) → Stands o → Fine P C gives o (type_at F y.id) ((low P y).part.lower o)
  means y t u = expressions.expression_means P C gives code locals values y t u

  operand : (y : Expr) (t : Static) → IsTypedExpr F locals y → IsUsed F y → type_at F y.id ≡ t → is_void t ≡ false → (o : Draft) → Stands o → FineOperand P C gives o t (operand_at P (part_of P y) o)
  operand y t k u e v = expressions.operand_means P C gives code locals values y t (λ o s. subst (λ q. Fine P C gives o q ((low P y).part.lower o)) e (means y k u o s)) v

  fits : (y : Expr) (t : Static) → Fits (type_at F y.id) t → IsTypedExpr F locals y → IsUsed F y → (o : Draft) → Stands o → Fine P C gives o t (fit_to P t (part_of P y) o)
  fits y t h k u = expressions.fit_means P C gives code locals values y t h (means y k u)

  fitted : (y : Expr) (t : Static) → Fits (type_at F y.id) t → is_void t ≡ false → IsTypedExpr F locals y → IsUsed F y → (o : Draft) → Stands o → FineOperand P C gives o t (fitted_operand P t (part_of P y) o)
  fitted y t h v k u o s = expressions.operand_fine P C gives code locals values t o (fit_to P t (part_of P y) o) (fits y t h k u o s) v

  -- ---- writes

  writes_slot : (slot token : ℕ) (t : Static) → slice_get locals slot ≡ Some t → (o : Draft) → Stands o → (x : Lasted) → Fine P C gives o t x → GoesTo o (slot_of P slot token x)
  writes_slot slot token t e o s x h =
      then o x.out _ h.goes (slotted_goes P C gives slot token x.value.id x.value.token x.value.had t x.out h.had (value_plain t (values slot t e)).void (stands o x.out s h.goes slot t e))

  put_field : (class place : ℕ) (t : Static) (a v : Operand) (o : Draft) (id token : ℕ) → slice_get (fields_of F class) place ≡ Some t → HasTy o.slots a (ty.Object class) → OperandFits o.slots t v → GoesTo o (emitted P (w.Put a class place v) token (Completed id) o)
  put_field class place t a v o id token e h k = emits P C gives (w.Put a class place v) token (Completed id) o (λ slots g. (code_type t, ty_more o.slots slots a (ty.Object class) g h, code.fields class place t e, ty_more o.slots slots v (code_type t) g (has_ty o.slots t v k)))

  put_variable : (n : Named) (t : Static) (y : Expr) (token : ℕ) → IsVariable F locals n t → Fits (type_at F y.id) t → IsTypedExpr F locals y → IsUsed F y → (o : Draft) → Stands o → GoesTo o (put_name P n t (part_of P y) token o)
  put_variable _ _ y token (typing.IsVariable.local slot t e) h k u o s = writes_slot slot token t e o s (fit_to P t (part_of P y) o) (fits y t h k u o s)
  put_variable _ _ y token (typing.IsVariable.field class place t e q) h k u o s =
      let v = fitted y t h (value_plain t (code.values class place t q)).void k u o s in
      let x = fitted_operand P t (part_of P y) o in
      then o x.out _ v.goes (put_field class place t (Slot 0) x.operand x.out y.id token q (stands o x.out s v.goes 0 (static.Object class) e) v.operand)

  put_held : (n : Named) (held t : Static) (of y : Expr) (token : ℕ) → IsMember F n held t → type_at F of.id ≡ held → Fits (type_at F y.id) t → IsTypedExpr F locals of → IsUsed F of → IsTypedExpr F locals y → IsUsed F y → (o : Draft) → Stands o → GoesTo o (put_member P n t (part_of P of) (part_of P y) token o)
  put_held _ _ _ of y token (typing.IsMember.field class place t q) e h j i k u o s =
      let a = operand of (static.Object class) j i e refl o s in
      let x = operand_at P (part_of P of) o in
      let v = fitted y t h (value_plain t (code.values class place t q)).void k u x.out (stands o x.out s a.goes) in
      let z = fitted_operand P t (part_of P y) x.out in
      then o x.out _ a.goes (then x.out z.out _ v.goes (put_field class place t x.operand z.operand z.out y.id token q (ty_more x.out.slots z.out.slots x.operand _ v.goes.slots (has_ty x.out.slots (static.Object class) x.operand a.operand)) v.operand))
  put_held _ _ _ of y token (typing.IsMember.array_length e') e h j i k u o s =
      let a = operand of (static.Array e') j i e refl o s in
      let x = operand_at P (part_of P of) o in
      let v = fitted y static.Int h refl k u x.out (stands o x.out s a.goes) in
      then o x.out _ a.goes v.goes

  put_indexed : (e : Element) (t : Static) (of index y : Expr) (token : ℕ) → type_at F of.id ≡ static.Array e → static_element e ≡ t → type_at F index.id ≡ static.Int → Fits (type_at F y.id) t → IsTypedExpr F locals of → IsUsed F of → IsTypedExpr F locals index → IsUsed F index → IsTypedExpr F locals y → IsUsed F y → (o : Draft) → Stands o → GoesTo o (put_element P t (part_of P of) (part_of P index) (part_of P y) token o)
  put_indexed e t of index y token d q n h j i l m k u o s =
      let a = operand of (static.Array e) j i d refl o s in
      let x = operand_at P (part_of P of) o in
      let b = operand index static.Int l m n refl x.out (stands o x.out s a.goes) in
      let z = operand_at P (part_of P index) x.out in
      let ab = then o x.out z.out a.goes b.goes in
      let plain : IsPlain t = subst (λ r. IsPlain r) q (element_plain e) in
      let v = fitted y t h plain.void k u z.out (stands o z.out s ab) in
      let p = fitted_operand P t (part_of P y) z.out in
      let word = w.Store x.operand z.operand p.operand in
      then o z.out _ ab (then z.out p.out _ v.goes (emits P C gives word token (Completed y.id) p.out (λ slots g. (
        element_number e,
        ty_more p.out.slots slots x.operand _ g (ty_more z.out.slots p.out.slots x.operand _ v.goes.slots (ty_more x.out.slots z.out.slots x.operand _ b.goes.slots (has_ty x.out.slots (static.Array e) x.operand a.operand))),
        ty_more p.out.slots slots z.operand _ g (ty_more z.out.slots p.out.slots z.operand _ v.goes.slots (has_ty z.out.slots static.Int z.operand b.operand)),
        subst (λ r. HasTy slots p.operand r) (ap code_type (sym q) ∙ sym (element_is e)) (ty_more p.out.slots slots p.operand (code_type t) g (has_ty p.out.slots t p.operand v.operand)),
      ))))

  -- ---- assignments

  rolled : (place : Expr) (form : ExprForm) (y : ExprForm-F ExprForm Expr) → place.form ≡ form → form ≡ roll-ExprForm y → out-ExprForm place.form ≡ y
  rolled place form y h k = ap out-ExprForm (h ∙ k) ∙ out-roll-ExprForm y

  put_at : (place y : Expr) (token : ℕ) (form : ExprForm-F ExprForm Expr) → out-ExprForm place.form ≡ form → (o : Draft) → GoesTo o (put_form P form place.id (part_of P y) token o) → GoesTo o (put_low P place (part_of P y) token o)
  put_at place y token form e o h = subst (λ x. GoesTo o (put_form P x place.id (part_of P y) token o)) (sym e) h

  part : (x y : Expr) → IsUsed F x → uses.IsPart y x → IsUsed F y
  part _ y (uses.IsUsed.used x a k) p = k y p

  asked : (x : Expr) → IsUsed F x → uses.IsAsked F x
  asked _ (uses.IsUsed.used x a k) = a

  assigned : (place y : Expr) (token : ℕ) → IsTypedExpr F locals place → IsUsed F place → Fits (type_at F y.id) (type_at F place.id) → IsTypedExpr F locals y → IsUsed F y → (o : Draft) → Stands o → GoesTo o (put_low P place (part_of P y) token o)
  assigned _ y token (typing.IsTypedExpr.variable x n h v) i q k u o s = put_at x y token (f.Name n) (rolled x _ (f.Name n) h (sym (rolls-Name n))) o (put_variable (named_at F x.id) (type_at F x.id) y token v q k u o s)
  assigned _ y token (typing.IsTypedExpr.field x of n h m j) i q k u o s = put_at x y token (f.Field of n) (rolled x _ (f.Field of n) h (sym (rolls-Field of n))) o (put_held (named_at F x.id) (type_at F of.id) (type_at F x.id) of y token m refl q j (part x of i (uses.IsPart.holder x of n h)) k u o s)
  assigned _ y token (typing.IsTypedExpr.indexed x of index t h e d j l) i q k u o s = put_at x y token (f.Index of index) (rolled x _ (f.Index of index) h (sym (rolls-Index of index))) o (put_indexed t (type_at F x.id) of index y token e d ((asked x i).index of index h) q j (part x of i (uses.IsPart.array x of index h)) l (part x index i (uses.IsPart.index x of index h)) k u o s)
  assigned _ y token (typing.IsTypedExpr.number x digits long h e) i q k u o s = put_at x y token (f.Number digits long) (rolled x _ (f.Number digits long) h (sym (rolls-Number digits long))) o (goes_none P C gives o)
  assigned _ y token (typing.IsTypedExpr.text x bytes h e) i q k u o s = put_at x y token (f.Str bytes) (rolled x _ (f.Str bytes) h (sym (rolls-Str bytes))) o (goes_none P C gives o)
  assigned _ y token (typing.IsTypedExpr.truth x h e) i q k u o s = put_at x y token f.True (rolled x _ f.True h (sym rolls-True)) o (goes_none P C gives o)
  assigned _ y token (typing.IsTypedExpr.falsehood x h e) i q k u o s = put_at x y token f.False (rolled x _ f.False h (sym rolls-False)) o (goes_none P C gives o)
  assigned _ y token (typing.IsTypedExpr.null x h e) i q k u o s = put_at x y token f.Null (rolled x _ f.Null h (sym rolls-Null)) o (goes_none P C gives o)
  assigned _ y token (typing.IsTypedExpr.this x h e) i q k u o s = put_at x y token f.This (rolled x _ f.This h (sym rolls-This)) o (goes_none P C gives o)
  assigned _ y token (typing.IsTypedExpr.group x inner h e j) i q k u o s = put_at x y token (f.Group inner) (rolled x _ (f.Group inner) h (sym (rolls-Group inner))) o (goes_none P C gives o)
  assigned _ y token (typing.IsTypedExpr.call x of n args method fact h e l d r a) i q k u o s = put_at x y token (f.Call of n args) (rolled x _ (f.Call of n args) h (sym (rolls-Call of n args))) o (goes_none P C gives o)
  assigned _ y token (typing.IsTypedExpr.library x of n args params h l j a) i q k u o s = put_at x y token (f.Call (Some of) n args) (rolled x _ (f.Call (Some of) n args) h (sym (rolls-Call (Some of) n args))) o (goes_none P C gives o)
  assigned _ y token (typing.IsTypedExpr.query x of n written args number site c h e l d p a) i q k u o s = put_at x y token (f.Call of n (written ∷ args)) (rolled x _ (f.Call of n (written ∷ args)) h (sym (rolls-Call of n (written ∷ args)))) o (goes_none P C gives o)
  assigned _ y token (typing.IsTypedExpr.update x of n written args number c h e l b d p a) i q k u o s = put_at x y token (f.Call of n (written ∷ args)) (rolled x _ (f.Call of n (written ∷ args)) h (sym (rolls-Call of n (written ∷ args)))) o (goes_none P C gives o)
  assigned _ y token (typing.IsTypedExpr.new_object x n class site h e d) i q k u o s = put_at x y token (f.NewObject n) (rolled x _ (f.NewObject n) h (sym (rolls-NewObject n))) o (goes_none P C gives o)
  assigned _ y token (typing.IsTypedExpr.new_array x size b site t h e d j) i q k u o s = put_at x y token (f.NewArray b size) (rolled x _ (f.NewArray b size) h (sym (rolls-NewArray b size))) o (goes_none P C gives o)
  assigned _ y token (typing.IsTypedExpr.prefix x z g h e j) i q k u o s = put_at x y token (f.Prefix g z) (rolled x _ (f.Prefix g z) h (sym (rolls-Prefix g z))) o (goes_none P C gives o)
  assigned _ y token (typing.IsTypedExpr.binary x l r g at h e a b) i q k u o s = put_at x y token (f.Binary g at l r) (rolled x _ (f.Binary g at l r) h (sym (rolls-Binary g at l r))) o (goes_none P C gives o)

  -- ---- locals

  stored : (n : Named) (t : Static) (y : Expr) (slot token : ℕ) → n ≡ named.Local slot → slice_get locals slot ≡ Some t → Fits (type_at F y.id) t → IsTypedExpr F locals y → IsUsed F y → (o : Draft) → Stands o → GoesTo o (store P n token (fit_to P t (part_of P y) o))
  stored n t y slot token e d h k u o s = subst (λ m. GoesTo o (store P m token (fit_to P t (part_of P y) o))) (sym e) (writes_slot slot token t d o s (fit_to P t (part_of P y) o) (fits y t h k u o s))

  changed : (g : Op) (slot : ℕ) (counter : Counter) (token : ℕ) (a : Operand) (t u : Static) (o : Draft) → HasSlot o.slots slot (code_type t) → HasTy o.slots a (code_type u) → typed.op_type g (code_type t) (code_type u) ≡ Some (code_type t) → GoesTo o (change P g slot counter token a o)
  changed g slot counter token a t u o h k e = emits P C gives (w.Op g slot (Slot slot) (Some a)) token counter o (λ slots m. (code_type t, code_type u, code_type t, m slot (code_type t) h, ty_more o.slots slots a (code_type u) m k, e, m slot (code_type t) h))

  compounded : (n : Named) (g : Op) (t : Static) (y : Expr) (slot token : ℕ) → n ≡ named.Local slot → slice_get locals slot ≡ Some t → GivesCode g t (type_at F y.id) t → IsTypedExpr F locals y → IsUsed F y → (o : Draft) → Stands o → GoesTo o (compound_low P n g (part_of P y) token o)
  compounded n g t y slot token e d h k u o s =
      let a = operand y (type_at F y.id) k u refl h.right o s in
      let x = operand_at P (part_of P y) o in
      subst (λ m. GoesTo o (compound_low P m g (part_of P y) token o)) (sym e)
      (then o x.out _ a.goes (changed g slot (Completed y.id) token x.operand t (type_at F y.id) x.out (stands o x.out s a.goes slot t d) (has_ty x.out.slots (type_at F y.id) x.operand a.operand) h.gives))

  by_one : (g : Op) (n : Named) (id slot token : ℕ) → n ≡ named.Local slot → slice_get locals slot ≡ Some (type_at F id) → Promotes (type_at F id) (type_at F id) (type_at F id) → typed.op_type g (code_type (type_at F id)) (code_type (type_at F id)) ≡ Some (code_type (type_at F id)) → (o : Draft) → Stands o → GoesTo o (by_one_low P n g id token o)
  by_one g n id slot token e d p q o s = subst (λ m. GoesTo o (by_one_low P m g id token o)) (sym e) (changed g slot (Begun id) token (Literal (one (type_at F id))) (type_at F id) (type_at F id) o (s slot (type_at F id) d) (one_typed (type_at F id) p) q)

  -- ---- calls

  left_out : (token : ℕ) (t : Static) (had : Had) (o : Draft) → is_void t ≡ true → HadFits P C gives o.slots t had → GoesTo o (without_result P token had o)
  left_out token t (Held a) o v h = goes_none P C gives o
  left_out token t (Chosen slot) o v h = goes_none P C gives o
  left_out token t (Made (step.Call of method args) u counter) o v h = emits P C gives (w.Call None of method args) token counter o (λ slots g. h.1.unused slots g v)
  left_out token t (Made (step.Op o' a b) u counter) o v h = absurd (h.1.unused o.slots (grows_none o.slots) v)
  left_out token t (Made (step.Get a class field) u counter) o v h = absurd (h.1.unused o.slots (grows_none o.slots) v)
  left_out token t (Made (step.Load a i) u counter) o v h = absurd (h.1.unused o.slots (grows_none o.slots) v)
  left_out token t (Made (step.Len a) u counter) o v h = absurd (h.1.unused o.slots (grows_none o.slots) v)
  left_out token t (Made (step.New class site) u counter) o v h = absurd (h.1.unused o.slots (grows_none o.slots) v)
  left_out token t (Made (step.Array element n site) u counter) o v h = absurd (h.1.unused o.slots (grows_none o.slots) v)
  left_out token t (Made (step.Query statement site params) u counter) o v h = absurd (h.1.unused o.slots (grows_none o.slots) v)
  left_out token t (Made (step.Update statement params) u counter) o v h = absurd (h.1.unused o.slots (grows_none o.slots) v)
  left_out token t (Made (step.Next a) u counter) o v h = absurd (h.1.unused o.slots (grows_none o.slots) v)
  left_out token t (Made (step.Long a i) u counter) o v h = absurd (h.1.unused o.slots (grows_none o.slots) v)
  left_out token t (Made (step.Text a i) u counter) o v h = absurd (h.1.unused o.slots (grows_none o.slots) v)

  unused_goes : (b : Bool) (t : Static) (o : Draft) (x : Lasted) → is_void t ≡ b → Fine P C gives o t x → GoesTo o (unused P b x)
  unused_goes true t o x v h = then o x.out _ h.goes (left_out x.value.token t x.value.had x.out v h.had)
  unused_goes false t o x v h = (expressions.operand_fine P C gives code locals values t o x h v).goes

  -- ---- branches and loops

  branched_goes : (c d : Bool) (id token : ℕ) (yes' no' : Steps) → IsFine c yes' → IsFine d no' → (o : Draft) → Stands o → (a : Operated) → FineOperand P C gives o static.Boolean a → GoesTo o (branched P id yes' no' token a)
  branched_goes c d id token yes' no' h k o s a g =
      let o1 = a.out in
      let counter = Completed id in
      let o3 = with_trees [] (noded P token counter o1) in
      let s3 : Stands o3 = stands o o1 s g.goes in
      let y = yes' o3 in
      let gy = h.goes o3 s3 in
      let o5 = with_trees [] y in
      let s5 : Stands o5 = stands o3 y s3 gy in
      let n = no' o5 in
      let gn = k.goes o5 s5 in
      let m = node_at P o1.method token counter in
      let whole : GoesTo o1 (branched P id yes' no' token a) = record {
        slots = λ place x e. gn.slots place x (gy.slots place x e);
        nodes = λ place x e. gn.nodes place x (gy.nodes place x (grows_append o1.nodes (m ∷ []) place x e));
        trees = λ slots ls ns ts. trees_next P C gives slots o1.trees _ ts (typed.IsTypedTree.branches (length o1.nodes + 1) a.operand y.trees n.trees refl
            (node_is P C gives o1.nodes m (λ place x e. ns place x (gn.nodes place x (gy.nodes place x e))))
            (ty_more o1.slots slots a.operand ty.Bool (λ place x e. ls place x (gn.slots place x (gy.slots place x e))) (has_ty o1.slots static.Boolean a.operand g.operand))
            (gy.trees slots (λ place x e. ls place x (gn.slots place x e)) (λ place x e. ns place x (gn.nodes place x e)) typed.AreTypedTrees.none)
            (gn.trees slots ls ns typed.AreTypedTrees.none));
        order = λ first c. adds_node P C gives o1.trees (If (length o1.nodes + 1) a.operand y.trees n.trees) o1.nodes m (all_nodes y.trees ++ all_nodes n.trees) first (length n.nodes) c (nodes_if (length o1.nodes + 1) a.operand y.trees n.trees)
            (counted_then (length o3.nodes + 1) (length y.nodes) (length n.nodes) (all_nodes y.trees) (all_nodes n.trees) (gy.order (length o3.nodes + 1) (counted_none (length o3.nodes))) (gn.order (length y.nodes + 1) (counted_none (length y.nodes))));
      } in
      then o o1 _ g.goes whole

  if_fine : (c d : Bool) (test : Expr) (yes' : Steps) (no' : Option Steps) (token : ℕ) → type_at F test.id ≡ static.Boolean → IsTypedExpr F locals test → IsUsed F test → IsFine c yes' → IsFine d (lower_if no') → IsFine (c || d) (if_low P (part_of P test) yes' no' token)
  if_fine c d test yes' no' token e t u h k = record {
    goes = λ o s. branched_goes c d test.id token yes' (lower_if no') h k o s (operand_at P (part_of P test) o) (operand test static.Boolean t u e refl o s);
    ends = λ o q.
        let n = neither c d q in
        let a = operand_at P (part_of P test) o in
        let o3 = with_trees [] (noded P token (Completed test.id) a.out) in
        typed.Stops.branches a.out.trees (length a.out.nodes + 1) a.operand (yes' o3).trees (lower_if no' (with_trees [] (yes' o3))).trees refl (h.ends o3 n.0) (k.ends (with_trees [] (yes' o3)) n.1);
  }

  loop_goes : (test : Expr) (body : Steps) (token : ℕ) → type_at F test.id ≡ static.Boolean → IsTypedExpr F locals test → IsUsed F test → ((o : Draft) → Stands o → GoesTo o (body o)) → (o : Draft) → Stands o → GoesTo o (loop_low P (part_of P test) body token o)
  loop_goes test body token e t u h o s =
      let o0 = with_trees [] o in
      let g = operand test static.Boolean t u e refl o0 s in
      let a = operand_at P (part_of P test) o0 in
      let o1 = a.out in
      let counter = Completed test.id in
      let o3 = with_trees [] (noded P token counter o1) in
      let s3 : Stands o3 = stands o0 o1 s g.goes in
      let b = body o3 in
      let gb = h o3 s3 in
      let m = node_at P o1.method token counter in
      record {
        slots = λ place x e. gb.slots place x (g.goes.slots place x e);
        nodes = λ place x e. gb.nodes place x (grows_append o1.nodes (m ∷ []) place x (g.goes.nodes place x e));
        trees = λ slots ls ns ts. trees_next P C gives slots o.trees _ ts (typed.IsTypedTree.loops o1.trees (length o1.nodes + 1) a.operand b.trees refl
            (node_is P C gives o1.nodes m (λ place x e. ns place x (gb.nodes place x e)))
            (ty_more o1.slots slots a.operand ty.Bool (λ place x e. ls place x (gb.slots place x e)) (has_ty o1.slots static.Boolean a.operand g.operand))
            (g.goes.trees slots (λ place x e. ls place x (gb.slots place x e)) (λ place x e. ns place x (gb.nodes place x (grows_append o1.nodes (m ∷ []) place x e))) typed.AreTypedTrees.none)
            (gb.trees slots ls ns typed.AreTypedTrees.none));
        order = λ first c. counted_by first (length b.nodes) _ _ (all_next o.trees (Loop o1.trees (length o1.nodes + 1) a.operand b.trees) ∙ ap (λ (ks : List ℕ). all_nodes o.trees ++ ks) (nodes_loop o1.trees (length o1.nodes + 1) a.operand b.trees))
            (counted_then first (length o.nodes) (length b.nodes) (all_nodes o.trees) _ c
            (counted_then (length o.nodes + 1) (length o1.nodes) (length b.nodes) (all_nodes o1.trees) _ (g.goes.order (length o.nodes + 1) (counted_none (length o.nodes)))
            (counted_first (length o1.nodes) (length o3.nodes) (length b.nodes) (all_nodes b.trees) (length-append o1.nodes (m ∷ [])) (gb.order (length o3.nodes + 1) (counted_none (length o3.nodes))))));
      }

  -- ---- returns and prints

  returned : (y : Expr) (id token : ℕ) → Fits (type_at F y.id) result → is_void result ≡ false → IsTypedExpr F locals y → IsUsed F y → IsFine false (return_low P result (Some (part_of P y)) id token)
  returned y id token h v k u = record {
    goes = λ o s.
        let a = fitted y result h v k u o s in
        let x = fitted_operand P result (part_of P y) o in
        then o x.out _ a.goes (emits P C gives (w.Return (Some x.operand)) token (Completed y.id) x.out (λ slots g. (code_type result, result_some result v, ty_more x.out.slots slots x.operand _ g (has_ty x.out.slots result x.operand a.operand))));
    ends = λ o e. let x = fitted_operand P result (part_of P y) o in typed.Stops.returns x.out.trees (length x.out.nodes + 1) (Some x.operand) refl;
  }

  left : (id token : ℕ) → result ≡ static.Void → IsFine false (return_low P result None id token)
  left id token e = record {
    goes = λ o s. emits P C gives (w.Return None) token (Begun id) o (λ slots g. ap code_result e);
    ends = λ o q. typed.Stops.returns o.trees (length o.nodes + 1) None refl;
  }

  prints : (y : Expr) (token : ℕ) → is_printable (type_at F y.id) ≡ true → IsTypedExpr F locals y → IsUsed F y → (o : Draft) → Stands o → GoesTo o (print_low P (part_of P y) token o)
  prints y token p k u o s =
      let q = printed_plain (type_at F y.id) p in
      let a = operand y (type_at F y.id) k u refl q.1 o s in
      let x = operand_at P (part_of P y) o in
      then o x.out _ a.goes (emits P C gives (w.Print x.operand) token (Completed y.id) x.out (λ slots g. (code_type (type_at F y.id), q.0, ty_more x.out.slots slots x.operand _ g (has_ty x.out.slots (type_at F y.id) x.operand a.operand))))

  -- ---- all statements

  asks : (x : Stmt) → AreUsed F result x → IsAskedOf F result x
  asks _ (uses.AreUsed.used x a k l) = a

  holds : (x : Stmt) (y : Expr) → AreUsed F result x → IsIn y x → IsUsed F y
  holds _ y (uses.AreUsed.used x a k l) p = k y p

  inner : (x y : Stmt) → AreUsed F result x → IsInner y x → AreUsed F result y
  inner _ y (uses.AreUsed.used x a k l) p = l y p

  mutual
    pub statement_fine : (c : Bool) (x : Stmt) → IsTypedStmt F locals result c x → AreUsed F result x → IsFine (completes x) (low_stmt P result x)
    statement_fine _ _ (typing.IsTypedStmt.block x items c h t) u = let f = items_fine c items t (λ place y e. inner x y u (uses.IsInner.item x y items place h e)) in fine_by _ (last_completes true (map completes items)) _ _ (completes_block x items h) (low_block P result x items h) (record { goes = f.goes; ends = λ o e. f.ends true o e (λ n. never n) })
    statement_fine _ _ (typing.IsTypedStmt.empty x h) u = fine_by _ true _ _ (completes_at x g.Empty (h ∙ sym st.rolls-Empty)) (low_empty P result x h) (goes_on (λ o. o) (λ o s. goes_none P C gives o))
    statement_fine _ _ (typing.IsTypedStmt.local x t n y h w k e) u = fine_by _ true _ _ (completes_at x (g.Local t n y) (h ∙ sym (st.rolls-Local t n y))) (low_local P result x t n y h) (goes_on _ (λ o s. stored (named_at F x.id) (type_at F x.id) y w.0 x.token w.1 w.2 k e (holds x y u (uses.IsIn.first x y t n h)) o s))
    statement_fine _ _ (typing.IsTypedStmt.assign x place y h k e d) u = fine_by _ true _ _ (completes_at x (g.Assign place y) (h ∙ sym (st.rolls-Assign place y))) (low_assign P result x place y h) (goes_on _ (λ o s. assigned place y x.token e (holds x place u (uses.IsIn.place x place y h)) k d (holds x y u (uses.IsIn.value x place y h)) o s))
    statement_fine _ _ (typing.IsTypedStmt.compound x n sign y h w k e) u = fine_by _ true _ _ (completes_at x (g.Compound n sign y) (h ∙ sym (st.rolls-Compound n sign y))) (low_compound P result x n sign y h) (goes_on _ (λ o s.
        compounded (named_at F x.id) (op_of sign (type_at F x.id) (type_at F y.id)) (type_at F x.id) y w.0 x.token w.1 w.2 (gives_code _ (type_at F x.id) (type_at F y.id) (type_at F x.id) k ((asks x u).joined n sign y h)) e (holds x y u (uses.IsIn.operand x y n sign h)) o s))
    statement_fine _ _ (typing.IsTypedStmt.up x n h w p) u = fine_by _ true _ _ (completes_at x (g.Up n) (h ∙ sym (st.rolls-Up n))) (low_up P result x n h) (goes_on _ (λ o s.
        by_one op.Add (named_at F x.id) x.id w.0 x.token w.1 w.2 p (gives_code op.Add _ _ _ (typing.GivesType.arithmetic op.Add (type_at F x.id) (type_at F x.id) (type_at F x.id) typing.IsArithmetic.add p) (λ e. absurd (cc e))).gives o s))
    statement_fine _ _ (typing.IsTypedStmt.down x n h w p) u = fine_by _ true _ _ (completes_at x (g.Down n) (h ∙ sym (st.rolls-Down n))) (low_down P result x n h) (goes_on _ (λ o s.
        by_one op.Sub (named_at F x.id) x.id w.0 x.token w.1 w.2 p (gives_code op.Sub _ _ _ (typing.GivesType.arithmetic op.Sub (type_at F x.id) (type_at F x.id) (type_at F x.id) typing.IsArithmetic.sub p) (λ e. absurd (cc e))).gives o s))
    statement_fine _ _ (typing.IsTypedStmt.call x y h e) u = fine_by _ true _ _ (completes_at x (g.Call y) (h ∙ sym (st.rolls-Call y))) (low_call P result x y h) (goes_on _ (λ o s. unused_goes (is_void (type_at F y.id)) (type_at F y.id) o ((low P y).part.lower o) refl (means y e (holds x y u (uses.IsIn.call x y h)) o s)))
    statement_fine _ _ (typing.IsTypedStmt.if_else x test a b c d h e i j) u = fine_by _ (completes a || completes b) _ _ (completes_if x test a a (Some b) h refl) (low_if P result x test a a (Some b) h refl)
        (if_fine (completes a) (completes b) test (low_stmt P result a) (Some (low_stmt P result b)) x.token ((asks x u).if_test test a (Some b) h) e (holds x test u (uses.IsIn.if_test x test a (Some b) h)) (statement_fine c a i (inner x a u (uses.IsInner.branch x a test (Some b) h))) (statement_fine d b j (inner x b u (uses.IsInner.other x b a test h))))
    statement_fine _ _ (typing.IsTypedStmt.if_only x test a c h e i) u = fine_by _ true _ _ (completes_if x test a a None h refl) (low_if P result x test a a None h refl)
        (goes_on _ (if_fine (completes a) true test (low_stmt P result a) None x.token ((asks x u).if_test test a None h) e (holds x test u (uses.IsIn.if_test x test a None h)) (statement_fine c a i (inner x a u (uses.IsInner.branch x a test None h))) (goes_on (λ o. o) (λ o s. goes_none P C gives o))).goes)
    statement_fine _ _ (typing.IsTypedStmt.while x test body c h e i) u = fine_by _ true _ _ (completes_at x (g.While test body) (h ∙ sym (st.rolls-While test body))) (low_while P result x test body body h refl)
        (goes_on _ (loop_goes test (low_stmt P result body) x.token ((asks x u).while_test test body h) e (holds x test u (uses.IsIn.while_test x test body h)) (statement_fine c body i (inner x body u (uses.IsInner.while_body x body test h))).goes))
    statement_fine _ _ (typing.IsTypedStmt.for_loop x begin test last body b c d h i e j k) u = fine_by _ true _ _ (completes_at x (g.For begin test last body) (h ∙ sym (st.rolls-For begin test last body))) (low_for P result x begin begin test last last body body h refl refl refl)
        (let first = statement_fine b begin i (inner x begin u (uses.IsInner.begin x begin test last body h)) in
        let after = statement_fine c last j (inner x last u (uses.IsInner.last x last begin test body h)) in
        let inside = statement_fine d body k (inner x body u (uses.IsInner.for_body x body begin test last h)) in
        goes_on _ (λ o s.
        let g = first.goes o s in
        let o1 = low_stmt P result begin o in
        then o o1 _ g (loop_goes test (λ o. low_stmt P result last (low_stmt P result body o)) x.token ((asks x u).for_test test begin last body h) e (holds x test u (uses.IsIn.for_test x test begin last body h))
        (λ p q. let m = inside.goes p q in then p (low_stmt P result body p) _ m (after.goes (low_stmt P result body p) (stands p (low_stmt P result body p) q m))) o1 (stands o o1 s g))))
    statement_fine _ _ (typing.IsTypedStmt.leave x h e) u = fine_by _ false _ _ (completes_return x None h) (low_return P result x None h) (left x.id x.token e)
    statement_fine _ _ (typing.IsTypedStmt.give x y h k e) u = fine_by _ false _ _ (completes_return x (Some y) h) (low_return P result x (Some y) h) (returned y x.id x.token k ((asks x u).result y h) e (holds x y u (uses.IsIn.result x y h)))
    statement_fine _ _ (typing.IsTypedStmt.print x y h e) u = fine_by _ true _ _ (completes_at x (g.Print y) (h ∙ sym (st.rolls-Print y))) (low_print P result x y h) (goes_on _ (λ o s. prints y x.token ((asks x u).printed y h) e (holds x y u (uses.IsIn.print x y h)) o s))

    items_fine : (c : Bool) (xs : List Stmt) → AreTypedStmts F locals result c xs → ((place : ℕ) (y : Stmt) → slice_get xs place ≡ Some y → AreUsed F result y) → AreFine xs
    items_fine _ _ typing.AreTypedStmts.none u = record { goes = λ o s. goes_none P C gives o; ends = λ before o e k. k e }
    items_fine _ _ (typing.AreTypedStmts.last x c t) u = let h = statement_fine c x t (u 0 x refl) in record { goes = h.goes; ends = λ before o e k. h.ends o e }
    items_fine _ _ (typing.AreTypedStmts.more x xs c d t ts) u =
        let h = statement_fine c x t (u 0 x refl) in
        let k = items_fine d xs ts (λ place y e. u (suc place) y e) in
        record {
          goes = λ o s. let g = h.goes o s in then o (low_stmt P result x o) _ g (k.goes (low_stmt P result x o) (stands o (low_stmt P result x o) s g));
          ends = λ before o e q. k.ends (completes x) (low_stmt P result x o) e (h.ends o);
        }
