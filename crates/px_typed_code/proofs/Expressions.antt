-- What an expression is lowered to is typed.
use Rattle.std.proofs.Common.{◌≡◌, ℕ, suc, ◌+◌, Bool, true, false, List, [], ◌∷◌, ◌++◌, append_assoc, length, length-append, map, Option, Some, None, option_map, slice_get, slice_index_or, refl, sym, ap, ◌∙◌, subst, append-nil}
use Rattle.px_value.specs.declared.value.Value.{Value}
use Rattle.px_value.specs.declared.value.Value.TheVariants as value
use Rattle.px_value.specs.declared.op.Op.{Op}
use Rattle.px_value.specs.declared.op.Op.TheVariants as op
use Rattle.px_value.specs.declared.header.Kind.TheVariants as kind
use Rattle.px_value.specs.Operators.{apply}
use Rattle.px_tree.specs.declared.Sign.{Sign}
use Rattle.px_tree.specs.declared.Sign.TheVariants as sign
use Rattle.px_tree.specs.declared.Expr.{Expr}
use Rattle.px_tree.specs.declared.ExprForm.{ExprForm, ExprForm-F, out-ExprForm, out-roll-ExprForm, roll-ExprForm}
use Rattle.px_tree.specs.declared.ExprForm.TheVariants.{rolls-Number, rolls-Str, rolls-True, rolls-False, rolls-Null, rolls-This, rolls-Name, rolls-Group, rolls-Field, rolls-Index, Call, rolls-Call, rolls-NewObject, rolls-NewArray, rolls-Prefix, rolls-Binary}
use Rattle.px_tree.specs.declared.ExprForm.TheOpen.{ExprForm-F as f}
use Rattle.px_facts.specs.declared.types.Ty.{Ty as Static}
use Rattle.px_facts.specs.declared.types.Ty.TheVariants as static
use Rattle.px_facts.specs.declared.types.Element.{Element}
use Rattle.px_facts.specs.Types.{is_void, element_type as static_element}
use Rattle.px_facts.specs.declared.checked.Checked.{Checked}
use Rattle.px_facts.specs.declared.checked.Named.{Named}
use Rattle.px_facts.specs.declared.checked.Named.TheVariants as named
use Rattle.px_facts.specs.declared.checked.Facts.{Facts}
use Rattle.px_facts.specs.declared.checked.MethodFact.{MethodFact}
use Rattle.px_facts.specs.declared.operation.Operation.{Operation}
use Rattle.px_mean.specs.Facts.{type_at, named_at, by_number, fields_of, params_in, operands_in, params_of, op_of, prefix_of, element_number}
use Rattle.px_mean.specs.Expressions.{literal}
use Rattle.px_mean.specs.Typing as typing
use Rattle.px_mean.specs.Typing.{GivesType, PrefixGives, BinaryGives, Fits, IsVariable, IsMember, IsLibrary, IsSendable, AreSendable, is_select, literal_type, IsTypedExpr, IsReceiver, AreArguments}
use Rattle.px_normal.specs.declared.ty.Ty.{Ty}
use Rattle.px_normal.specs.declared.ty.Ty.TheVariants as ty
use Rattle.px_normal.specs.declared.word.Operand.{Operand}
use Rattle.px_normal.specs.declared.word.Operand.TheVariants.{Slot, Literal}
use Rattle.px_normal.specs.declared.method.Tree.{Tree}
use Rattle.px_normal.specs.declared.node.Counter.{Counter}
use Rattle.px_normal.specs.declared.node.Counter.TheVariants.{Begun, Completed}
use Rattle.px_normal.specs.declared.code.Code.{Code}
use Rattle.px_normal.specs.Typed as typed
use Rattle.px_normal.specs.Typed.{IsNode, IsLiteral, HasSlot, HasTy, AreFirst, is_query, ResultFits, IsTypedWord, IsTypedTree, AreTypedTrees}
use Rattle.px_lowering.specs.declared.draft.Draft.{Draft}
use Rattle.px_lowering.specs.declared.valued.Step.{Step}
use Rattle.px_lowering.specs.declared.valued.Step.TheVariants as step
use Rattle.px_lowering.specs.declared.valued.Had.{Had}
use Rattle.px_lowering.specs.declared.valued.Had.TheVariants.{Held}
use Rattle.px_lowering.specs.Types.{code_type}
use Rattle.px_lowering.specs.Emit.{Lasted, node_at, noded, with_trees, writes, operand_of, temp_of, slot_of}
use Rattle.px_lowering.specs.Expressions.{Lowers, Low, valued, stands, made, operand_at, fit_to, fitted_operand, name_had, member_had, object_had, array_had, negated, number_in, number_of, literal_behind, prefix_low, two_low, choice, choice_low, choice_of, by_choice, Receiving, received, Arguing, one_more, arguments, first_of, step_had, call_low, low, part_of}
use Rattle.px_lowering.proofs.Forms.{low_number, low_text, low_true, low_false, low_null, low_this, low_name, low_group, low_field, low_index, low_call, low_new_object, low_new_array, low_prefix, low_binary}
use Rattle.px_lowering.specs.Allocations.{kind_of}
use Rattle.px_typed_code.specs.Laws.{site_of}
use Rattle.px_uses.specs.Uses as uses
use Rattle.px_uses.specs.Uses.{is_choice, joins, IsPart, AsksRows, IsUsed}
use Rattle.px_typed_code.specs.Values.{is_value}
use Rattle.px_typed_code.specs.Nodes.{nodes_in, all_nodes}
use Rattle.px_typed_code.proofs.Counted.{counted_none, nodes_if}
use Rattle.px_typed_code.proofs.Operators.{IsPlain, GivesCode, gives_code, prefix_joins_none, SignIs, sign_is, never}
use Rattle.px_typed_code.proofs.Drafts.{Grows, grows_append, OperandFits, has_ty, ty_more, operand_more, StepFits, HadFits, Goes, goes_none, goes_then, trees_next, node_is, adds_node, Fine, FineOperand, operated_fine, temped_fine, slotted_goes, fitted_fine, unknown_fine}
use Rattle.px_typed_code.proofs.Around.{IsCodeOf, query_is, value_plain, element_plain, element_is, ArgsFit, args_more, args_first, args_count, args_sent, sendable_value, result_null, result_some, result_none}

module _ (P : Checked) (C : Code) (gives : Option Ty) (code : IsCodeOf P.facts C) (locals : List Static) (values : (place : ℕ) (t : Static) → slice_get locals place ≡ Some t → is_value t ≡ true) where
  abbrev F : Facts
  F = P.facts

  abbrev says : Expr → Lowers
  says x = (low P x).part.lower

  -- the locals stand in the first slots
  abbrev pub Stands : Draft → Type 0
  Stands o = (place : ℕ) (t : Static) → slice_get locals place ≡ Some t → HasSlot o.slots place (code_type t)

  pub stands_then : (a b : Draft) → Stands a → Goes P C gives a b → Stands b
  stands_then a b s g place t h = g.slots place (code_type t) (s place t h)

  -- an expression of this type
  abbrev pub Means : Static → Lowers → Type 0
  Means t l = (o : Draft) → Stands o → Fine P C gives o t (l o)

  means_by : (x : Expr) (t : Static) (l : Low) → low P x ≡ l → Means t l.part.lower → Means t (says x)
  means_by x t l e h = subst (λ (k : Low). Means t k.part.lower) (sym e) h

  -- it adds no statements
  had_means : (t : Static) (h : Had) (id token : ℕ) → ((o : Draft) → Stands o → HadFits P C gives o.slots t h) → Means t (valued h id token)
  had_means t h id token k o s = record { goes = goes_none P C gives o; had = k o s }

  -- a value behind other statements
  behind : (t : Static) (h : Had) (id token : ℕ) (o o' : Draft) → Goes P C gives o o' → HadFits P C gives o'.slots t h → Fine P C gives o t (valued h id token o')
  behind t h id token o o' g k = record { goes = g; had = k }

  -- a step that gives a value of a plain type
  step_fits : (slots : List Ty) (t : Static) (s : Step) → IsPlain t → ((more : List Ty) → Grows slots more → (to : ℕ) → HasSlot more to (code_type t) → IsTypedWord C gives more (writes s to)) → StepFits P C gives slots t s
  step_fits slots t s k h = record { null = k.null; writes = λ more g v to e. h more g to e; unused = λ more g v. never (sym v ∙ k.void) }

  made_fits : (slots : List Ty) (id : ℕ) (t : Static) (s : Step) (counter : Counter) → t ≡ type_at F id → StepFits P C gives slots t s → HadFits P C gives slots t (made P id s counter)
  made_fits slots id t s counter e h = (ap code_type (sym e), h)

  pub operand_means : (y : Expr) (t : Static) → Means t (says y) → is_void t ≡ false → (o : Draft) → Stands o → FineOperand P C gives o t (operand_at P (part_of P y) o)
  operand_means y t m v o s =
      let x = says y o in
      let h = m o s in
      let a = operated_fine P C gives x.value.token x.value.had t x.out h.had v in
      record { goes = goes_then P C gives o x.out _ h.goes a.goes; operand = a.operand }

  -- ---- names and members

  slot_plain : (slots : List Ty) (t : Static) (slot : ℕ) → is_value t ≡ true → HasSlot slots slot (code_type t) → OperandFits slots t (Slot slot)
  slot_plain slots t slot v h = OperandFits.plain t (Slot slot) (value_plain t v).null h

  field_step : (slots : List Ty) (class place : ℕ) (t : Static) (a : Operand) → slice_get (fields_of F class) place ≡ Some t → HasTy slots a (ty.Object class) → StepFits P C gives slots t (step.Get a class place)
  field_step slots class place t a e h = step_fits slots t (step.Get a class place) (value_plain t (code.values class place t e)) (λ more g to k. (code_type t, ty_more slots more a (ty.Object class) g h, code.fields class place t e, k))

  name_fits : (n : Named) (t : Static) (id : ℕ) → IsVariable F locals n t → t ≡ type_at F id → (o : Draft) → Stands o → HadFits P C gives o.slots t (name_had P n id)
  name_fits _ _ id (typing.IsVariable.local slot t e) q o s = slot_plain o.slots t slot (values slot t e) (s slot t e)
  name_fits _ _ id (typing.IsVariable.field class place t e k) q o s = made_fits o.slots id t (step.Get (Slot 0) class place) (Begun id) q (field_step o.slots class place t (Slot 0) k (s 0 (static.Object class) e))

  member_void : (n : Named) (u t : Static) → IsMember F n u t → is_void u ≡ false
  member_void _ _ _ (typing.IsMember.field class place t k) = refl
  member_void _ _ _ (typing.IsMember.array_length of) = refl

  member_fits : (n : Named) (u t : Static) (id : ℕ) → IsMember F n u t → t ≡ type_at F id → (slots : List Ty) (a : Operand) (of_id : ℕ) → OperandFits slots u a → HadFits P C gives slots t (member_had P n id a of_id)
  member_fits _ _ _ id (typing.IsMember.field class place t k) q slots a of_id h = made_fits slots id t (step.Get a class place) (Completed of_id) q (field_step slots class place t a k (has_ty slots (static.Object class) a h))
  member_fits _ _ _ id (typing.IsMember.array_length of) q slots a of_id h =
      made_fits slots id static.Int (step.Len a) (Completed of_id) q (step_fits slots static.Int (step.Len a) (record { void = refl; null = refl }) (λ more g to k. (element_number of, ty_more slots more a _ g (has_ty slots (static.Array of) a h), k)))

  index_means : (id token : ℕ) (e : Element) (of index : Expr) → static_element e ≡ type_at F id → Means (static.Array e) (says of) → Means static.Int (says index) → Means (type_at F id) (λ o. let a = operand_at P (part_of P of) o in let i = operand_at P (part_of P index) a.out in valued (made P id (step.Load a.operand i.operand) (Completed index.id)) id token i.out)
  index_means id token e of index q m k o s =
      let a = operand_means of (static.Array e) m refl o s in
      let x = operand_at P (part_of P of) o in
      let i = operand_means index static.Int k refl x.out (stands_then o x.out s a.goes) in
      let y = operand_at P (part_of P index) x.out in
      let t = static_element e in
      let array : HasTy y.out.slots x.operand (ty.Array (element_number e)) = ty_more x.out.slots y.out.slots x.operand _ i.goes.slots (has_ty x.out.slots (static.Array e) x.operand a.operand) in
      let index_is : HasTy y.out.slots y.operand ty.Int = has_ty y.out.slots static.Int y.operand i.operand in
      let st = step.Load x.operand y.operand in
      let fits : StepFits P C gives y.out.slots t st = step_fits y.out.slots t st (element_plain e) (λ more g to k. (element_number e, ty_more y.out.slots more x.operand _ g array, ty_more y.out.slots more y.operand _ g index_is, k ∙ ap Some (sym (element_is e)))) in
      behind (type_at F id) _ id token o y.out (goes_then P C gives o x.out y.out a.goes i.goes) (subst (λ u. HadFits P C gives y.out.slots u (made P id st (Completed index.id))) q (made_fits y.out.slots id t st (Completed index.id) q fits))

  -- ---- `new`

  object_means : (n : Named) (t : Static) (id token class site : ℕ) → n ≡ named_at F id → n ≡ named.NewObject class site → t ≡ type_at F id → t ≡ static.Object class → Means t (valued (object_had P n id) id token)
  object_means n t id token class site q h e d = had_means t (object_had P n id) id token (λ o s.
      let there = code.sites id site (kind.Object class) (ap site_of (sym q ∙ h)) (λ i. kind_of ((sym q ∙ h) i) ((sym e ∙ d) i)) in
      let fits : StepFits P C gives o.slots (static.Object class) (step.New class site) = step_fits o.slots (static.Object class) (step.New class site) (record { void = refl; null = refl }) (λ more g to k. (there, k)) in
      subst (λ (m : Named). HadFits P C gives o.slots t (object_had P m id)) (sym h) (made_fits o.slots id t (step.New class site) (Begun id) e (subst (λ u. StepFits P C gives o.slots u (step.New class site)) (sym d) fits)))

  array_means : (id token site : ℕ) (e : Element) (size : Expr) → named_at F id ≡ named.NewArray site → type_at F id ≡ static.Array e → Means static.Int (says size) → Means (type_at F id) (λ o. let a = operand_at P (part_of P size) o in valued (array_had P (named_at F id) (type_at F id) id a.operand size.id) id token a.out)
  array_means id token site e size h d m o s =
      let a = operand_means size static.Int m refl o s in
      let x = operand_at P (part_of P size) o in
      let there = code.sites id site (kind.Array (element_number e)) (ap site_of h) (λ i. kind_of (h i) (d i)) in
      let st = step.Array (element_number e) x.operand site in
      let size_is : HasTy x.out.slots x.operand ty.Int = has_ty x.out.slots static.Int x.operand a.operand in
      let fits : StepFits P C gives x.out.slots (static.Array e) st = step_fits x.out.slots (static.Array e) st (record { void = refl; null = refl }) (λ more g to k. (there, ty_more x.out.slots more x.operand _ g size_is, k)) in
      let mine : HadFits P C gives x.out.slots (type_at F id) (made P id st (Completed size.id)) = made_fits x.out.slots id (type_at F id) st (Completed size.id) refl (subst (λ u. StepFits P C gives x.out.slots u st) (sym d) fits) in
      behind (type_at F id) _ id token o x.out a.goes (subst (λ (w : Named × Static). HadFits P C gives x.out.slots (type_at F id) (array_had P w.0 w.1 id x.operand size.id)) (λ i. (sym h i, sym d i)) mine)

  -- ---- operators

  op_step : (slots : List Ty) (o : Op) (l r t : Static) (a : Operand) (b : Option Operand) → GivesCode o l r t → OperandFits slots l a → ((more : List Ty) → Grows slots more → typed.HasTyOr more (code_type l) b (code_type r)) → StepFits P C gives slots t (step.Op o a b)
  op_step slots o l r t a b g h k = step_fits slots t (step.Op o a b) g.plain (λ more w to e. (code_type l, code_type r, code_type t, ty_more slots more a (code_type l) w (has_ty slots l a h), k more w, g.gives, e))

  one_means : (o : Op) (y : Expr) (u t : Static) (id token : ℕ) → t ≡ type_at F id → GivesCode o u u t → Means u (says y) → Means t (λ d. let a = operand_at P (part_of P y) d in valued (made P id (step.Op o a.operand None) (Completed y.id)) id token a.out)
  one_means o y u t id token q g m d s =
      let a = operand_means y u m g.left d s in
      let x = operand_at P (part_of P y) d in
      behind t _ id token d x.out a.goes (made_fits x.out.slots id t (step.Op o x.operand None) (Completed y.id) q (op_step x.out.slots o u u t x.operand None g a.operand (λ more w. refl)))

  two_means : (o : Op) (y z : Expr) (l r t : Static) (id token : ℕ) → t ≡ type_at F id → GivesCode o l r t → Means l (says y) → Means r (says z) → Means t (two_low P o (part_of P y) (part_of P z) id token)
  two_means o y z l r t id token q g m k d s =
      let a = operand_means y l m g.left d s in
      let x = operand_at P (part_of P y) d in
      let b = operand_means z r k g.right x.out (stands_then d x.out s a.goes) in
      let v = operand_at P (part_of P z) x.out in
      let st = step.Op o x.operand (Some v.operand) in
      behind t _ id token d v.out (goes_then P C gives d x.out v.out a.goes b.goes)
      (made_fits v.out.slots id t st (Completed z.id) q (op_step v.out.slots o l r t x.operand (Some v.operand) g (operand_more x.out.slots v.out.slots l x.operand b.goes.slots a.operand) (λ more w. ty_more v.out.slots more v.operand (code_type r) w (has_ty v.out.slots r v.operand b.operand))))

  choice_typed : (both : Bool) (slots : List Ty) (node temp : ℕ) (ts : List Tree) → IsNode C node → HasSlot slots temp ty.Bool → AreTypedTrees C gives slots ts → IsTypedTree C gives slots (choice both node temp ts)
  choice_typed true slots node temp ts n h k = typed.IsTypedTree.branches node (Slot temp) ts [] refl n h k typed.AreTypedTrees.none
  choice_typed false slots node temp ts n h k = typed.IsTypedTree.branches node (Slot temp) [] ts refl n h typed.AreTypedTrees.none k

  choice_nodes : (both : Bool) (node temp : ℕ) (ts : List Tree) → nodes_in (choice both node temp ts) ≡ node ∷ all_nodes ts
  choice_nodes true node temp ts = nodes_if node (Slot temp) ts [] ∙ ap (λ (ks : List ℕ). node ∷ ks) (append-nil (all_nodes ts))
  choice_nodes false node temp ts = nodes_if node (Slot temp) [] ts

  choice_means : (both : Bool) (y z : Expr) (t : Static) (id token : ℕ) → t ≡ static.Boolean → Means static.Boolean (says y) → Means static.Boolean (says z) → Means t (choice_low P both (part_of P y) (part_of P z) id token)
  choice_means both y z t id token q m k d s =
      let x = says y d in
      let h = m d s in
      let a = temp_of P token x in
      let fine_temp = temped_fine P C gives token x.value.id x.value.token x.value.had x.out h.had in
      let o1 = a.out in
      let g1 = goes_then P C gives d x.out o1 h.goes fine_temp.goes in
      let o3 = with_trees [] (noded P token (Completed y.id) o1) in
      let s3 : Stands o3 = stands_then d o1 s g1 in
      let v = says z o3 in
      let fine_right = k o3 s3 in
      let b = slot_of P a.temp token v in
      let write = slotted_goes P C gives a.temp token v.value.id v.value.token v.value.had static.Boolean v.out fine_right.had refl (fine_right.goes.slots a.temp ty.Bool fine_temp.temp) in
      let g3 = goes_then P C gives o3 v.out b fine_right.goes write in
      let n = node_at P o1.method token (Completed y.id) in
      let whole : Goes P C gives o1 (with_trees (o1.trees ++ choice both (length o1.nodes + 1) a.temp b.trees ∷ []) b) = record {
        slots = g3.slots;
        nodes = λ place e w. g3.nodes place e (grows_append o1.nodes (n ∷ []) place e w);
        trees = λ slots w nodes ts. trees_next P C gives slots o1.trees _ ts (choice_typed both slots (length o1.nodes + 1) a.temp b.trees (node_is P C gives o1.nodes n (λ place e u. nodes place e (g3.nodes place e u))) (w a.temp ty.Bool (g3.slots a.temp ty.Bool fine_temp.temp)) (g3.trees slots w nodes typed.AreTypedTrees.none));
        order = λ first c. adds_node P C gives o1.trees (choice both (length o1.nodes + 1) a.temp b.trees) o1.nodes n (all_nodes b.trees) first (length b.nodes) c (choice_nodes both (length o1.nodes + 1) a.temp b.trees) (g3.order (length o3.nodes + 1) (counted_none (length o3.nodes)));
      } in
      record { goes = goes_then P C gives d o1 _ g1 whole; had = (q, g3.slots a.temp ty.Bool fine_temp.temp) }

  binary_means : (g : Sign) (y z : Expr) (l r t : Static) (id token : ℕ) → t ≡ type_at F id → SignIs g l r t → l ≡ type_at F y.id → r ≡ type_at F z.id → (is_choice g ≡ true → t ≡ static.Boolean) → (op_of g l r ≡ op.Concat → joins l r ≡ true) → Means l (says y) → Means r (says z) → Means t (λ d. by_choice P (choice_of g) (op_of g l r) (part_of P y) (part_of P z) id token d)
  binary_means g y z l r t id token q (SignIs.operator e k) u v c j m w = subst (λ (x : Option Bool). Means t (λ d. by_choice P x (op_of g l r) (part_of P y) (part_of P z) id token d)) (sym e) (two_means (op_of g l r) y z l r t id token q (gives_code (op_of g l r) l r t k j) m w)
  binary_means g y z l r t id token q (SignIs.choice both e k a b) u v c j m w =
      let bool = c k in
      subst (λ (x : Option Bool). Means t (λ d. by_choice P x (op_of g l r) (part_of P y) (part_of P z) id token d)) (sym e)
      (choice_means both y z t id token bool (subst (λ u. Means u (says y)) (a ∙ bool) m) (subst (λ u. Means u (says z)) (b ∙ bool) w))

  -- a minus with a number right behind it
  abbrev some_type : Option Ty → Ty
  some_type None = ty.Int
  some_type (Some t) = t

  negated_fits : (digits : List ℕ) (long : Bool) (t : Static) (slots : List Ty) → GivesType op.Neg (literal_type long) (literal_type long) t → OperandFits slots t (Literal (negated (literal digits long)))
  unfolding apply
  negated_fits digits true t slots g = let k = gives_code op.Neg static.Long static.Long t g (λ e. absurd (cc e)) in OperandFits.plain t (Literal (negated (literal digits true))) k.plain.null (sym (ap some_type k.gives))
  negated_fits digits false t slots g = let k = gives_code op.Neg static.Int static.Int t g (λ e. absurd (cc e)) in OperandFits.plain t (Literal (negated (literal digits false))) k.plain.null (sym (ap some_type k.gives))

  -- what a bare number is
  record IsNumberOf (u : Static) (v : Value) : Type 0 where
    digits : List ℕ
    long : Bool
    value : v ≡ literal digits long
    ty : u ≡ literal_type long

  behind_minus : (u t : Static) (v : Value) (slots : List Ty) → IsNumberOf u v → GivesType op.Neg u u t → OperandFits slots t (Literal (negated v))
  behind_minus u t v slots h g = subst (λ (x : Value). OperandFits slots t (Literal (negated x))) (sym h.value) (negated_fits h.digits h.long t slots (subst (λ x. GivesType op.Neg x x t) h.ty g))

  abbrev some_value : Option Value → Value
  some_value None = value.Null
  some_value (Some v) = v

  literal_fits : (g : Sign) (n : Option Value) (u t : Static) (slots : List Ty) → PrefixGives (prefix_of g u) u t → ((v : Value) → n ≡ Some v → IsNumberOf u v) → (v : Value) → literal_behind g n ≡ Some v → OperandFits slots t (Literal v)
  literal_fits sign.Minus None u t slots g h v e = absurd (cc e)
  literal_fits sign.Minus (Some w) u t slots g h v e = subst (λ (x : Value). OperandFits slots t (Literal x)) (ap some_value e) (behind_minus u t w slots (h w refl) g)
  literal_fits sign.Plus n u t slots g h v e = absurd (cc e)
  literal_fits sign.Times n u t slots g h v e = absurd (cc e)
  literal_fits sign.Over n u t slots g h v e = absurd (cc e)
  literal_fits sign.Rest n u t slots g h v e = absurd (cc e)
  literal_fits sign.And n u t slots g h v e = absurd (cc e)
  literal_fits sign.Or n u t slots g h v e = absurd (cc e)
  literal_fits sign.Xor n u t slots g h v e = absurd (cc e)
  literal_fits sign.Shl n u t slots g h v e = absurd (cc e)
  literal_fits sign.Shr n u t slots g h v e = absurd (cc e)
  literal_fits sign.Ushr n u t slots g h v e = absurd (cc e)
  literal_fits sign.Less n u t slots g h v e = absurd (cc e)
  literal_fits sign.AtMost n u t slots g h v e = absurd (cc e)
  literal_fits sign.More n u t slots g h v e = absurd (cc e)
  literal_fits sign.AtLeast n u t slots g h v e = absurd (cc e)
  literal_fits sign.Equal n u t slots g h v e = absurd (cc e)
  literal_fits sign.Unequal n u t slots g h v e = absurd (cc e)
  literal_fits sign.Both n u t slots g h v e = absurd (cc e)
  literal_fits sign.Either n u t slots g h v e = absurd (cc e)
  literal_fits sign.Not n u t slots g h v e = absurd (cc e)
  literal_fits sign.Inv n u t slots g h v e = absurd (cc e)
  literal_fits sign.ToInt n u t slots g h v e = absurd (cc e)
  literal_fits sign.ToLong n u t slots g h v e = absurd (cc e)

  prefix_means : (number : Option Value) (o : Option Op) (y : Expr) (u t : Static) (id token : ℕ) → t ≡ type_at F id → PrefixGives o u t → (o ≡ Some op.Concat → ⊥) → ((v : Value) → number ≡ Some v → (slots : List Ty) → OperandFits slots t (Literal v)) → Means u (says y) → Means t (prefix_low P number o (part_of P y) id token)
  prefix_means (Some v) o y u t id token q g n h m = had_means t (stands v) id token (λ d s. h v refl d.slots)
  prefix_means None None y u t id token q g n h m = subst (λ x. Means x (says y)) g m
  prefix_means None (Some o) y u t id token q g n h m = one_means o y u t id token q (gives_code o u u t g (λ e. absurd (n (ap Some e)))) m

  -- ---- arguments

  -- the type that is wanted at a parameter, if it is known; else it is no long
  data IsWanted (wanted t : Static) : Type 0 where
    known : wanted ≡ t → IsWanted wanted t
    unknown : wanted ≡ static.Unknown → (t ≡ static.Long → ⊥) → IsWanted wanted t

  abbrev AreWanted : List Static → ℕ → List Static → Type 0
  AreWanted types place [] = Unit {0}
  AreWanted types place (t ∷ ts) = IsWanted (slice_index_or types place static.Unknown) t × AreWanted types (place + 1) ts

  abbrev AreValues : List Static → Type 0
  AreValues [] = Unit {0}
  AreValues (t ∷ ts) = (is_value t ≡ true) × AreValues ts

  are_values : (ts : List Static) → ((place : ℕ) (t : Static) → slice_get ts place ≡ Some t → is_value t ≡ true) → AreValues ts
  are_values [] h = tt
  are_values (t ∷ ts) h = (h 0 t refl, are_values ts (λ place u e. h (suc place) u e))

  sendable_values : (ts : List Static) → AreSendable ts → AreValues ts
  sendable_values [] h = tt
  sendable_values (t ∷ ts) h = (sendable_value t h.0, sendable_values ts h.1)

  at_seam : (before : List Static) (t : Static) (ts : List Static) → slice_index_or (before ++ t ∷ ts) (length before) static.Unknown ≡ t
  at_seam [] t ts = refl
  at_seam (b ∷ before) t ts = at_seam before t ts

  all_wanted : (before ts : List Static) → AreWanted (before ++ ts) (length before) ts
  all_wanted before [] = tt
  all_wanted before (t ∷ ts) =
      let e : (before ++ t ∷ []) ++ ts ≡ before ++ t ∷ ts = append_assoc before (t ∷ []) ts in
      let n : length (before ++ t ∷ []) ≡ length before + 1 = length-append before (t ∷ []) in
      (IsWanted.known (at_seam before t ts), subst (λ (w : List Static × ℕ). AreWanted w.0 w.1 ts) (λ i. (e i, n i)) (all_wanted (before ++ t ∷ []) ts))

  pub fit_means : (y : Expr) (t : Static) → Fits (type_at F y.id) t → Means (type_at F y.id) (says y) → (o : Draft) → Stands o → Fine P C gives o t (fit_to P t (part_of P y) o)
  fit_means y t h m o s =
      let x = says y o in
      let k = m o s in
      let r = fitted_fine P C gives (type_at F y.id) t h x.value.id x.value.token x.value.had x.out k.had in
      record { goes = goes_then P C gives o x.out _ k.goes r.goes; had = r.had }

  wanted_means : (y : Expr) (wanted t : Static) → IsWanted wanted t → Fits (type_at F y.id) t → Means (type_at F y.id) (says y) → (o : Draft) → Stands o → Fine P C gives o t (fit_to P wanted (part_of P y) o)
  wanted_means y wanted t (IsWanted.known e) h m o s = subst (λ u. Fine P C gives o t (fit_to P u (part_of P y) o)) (sym e) (fit_means y t h m o s)
  wanted_means y wanted t (IsWanted.unknown e n) h m o s =
      let x = says y o in
      let k = m o s in
      let r = unknown_fine P C gives (type_at F y.id) t h n x.value.id x.value.token x.value.had x.out k.had in
      subst (λ u. Fine P C gives o t (fit_to P u (part_of P y) o)) (sym e) (record { goes = goes_then P C gives o x.out _ k.goes r.goes; had = r.had })

  pub operand_fine : (t : Static) (o : Draft) (x : Lasted) → Fine P C gives o t x → is_void t ≡ false → FineOperand P C gives o t (operand_of P x)
  operand_fine t o x h v = let a = operated_fine P C gives x.value.token x.value.had t x.out h.had v in record { goes = goes_then P C gives o x.out _ h.goes a.goes; operand = a.operand }

  record FineArgs (o : Draft) (ts : List Static) (x : Arguing) : Type 0 where
    goes : Goes P C gives o x.out
    args : ArgsFit x.out.slots ts x.value.operands

  record FineReceiving (o : Draft) (t : Static) (x : Receiving) : Type 0 where
    goes : Goes P C gives o x.out
    operand : OperandFits x.out.slots t x.value.operand

  one_more_fine : (y : Expr) (wanted t : Static) (ts : List Static) (o : Draft) → Stands o → IsWanted wanted t → is_value t ≡ true → Fits (type_at F y.id) t → Means (type_at F y.id) (says y) → (rest : Draft → Arguing) → ((d : Draft) → Stands d → FineArgs d ts (rest d)) → FineArgs o (t ∷ ts) (let a = fitted_operand P wanted (part_of P y) o in one_more a.operand (rest a.out))
  one_more_fine y wanted t ts o s w v h m rest k =
      let x = fit_to P wanted (part_of P y) o in
      let a = operand_fine t o x (wanted_means y wanted t w h m o s) (value_plain t v).void in
      let d = operand_of P x in
      let r = k d.out (stands_then o d.out s a.goes) in
      record { goes = goes_then P C gives o d.out _ a.goes r.goes; args = (operand_more d.out.slots (rest d.out).out.slots t d.operand r.goes.slots a.operand, r.args) }

  -- ---- calls

  -- of a receiver and of arguments
  called_means : (types : List Static) (of : Option Expr) (es : List Expr) (u : Static) (ts : List Static) (t : Static) (id token : ℕ) (st : Operand → List Operand → Step) → t ≡ type_at F id
      → ((o : Draft) → Stands o → FineReceiving o u (received P false (option_map (part_of P) of) id o))
      → ((before : Counter) (o : Draft) → Stands o → FineArgs o ts (arguments P types 0 before (map (part_of P) es) o))
      → ((slots : List Ty) (a : Operand) (xs : List Operand) → OperandFits slots u a → ArgsFit slots ts xs → StepFits P C gives slots t (st a xs))
      → Means t (λ o. let a = received P false (option_map (part_of P) of) id o in let r = arguments P types 0 a.value.counter (map (part_of P) es) a.out in valued (step_had P id r.value.counter (Some (st a.value.operand r.value.operands))) id token r.out)
  called_means types of es u ts t id token st q receives takes fits o s =
      let a = received P false (option_map (part_of P) of) id o in
      let x = receives o s in
      let r = arguments P types 0 a.value.counter (map (part_of P) es) a.out in
      let y = takes a.value.counter a.out (stands_then o a.out s x.goes) in
      behind t _ id token o r.out (goes_then P C gives o a.out r.out x.goes y.goes)
      (made_fits r.out.slots id t (st a.value.operand r.value.operands) r.value.counter q (fits r.out.slots a.value.operand r.value.operands (operand_more a.out.slots r.out.slots u a.value.operand y.goes.slots x.operand) y.args))

  -- of arguments alone
  asked_means : (types : List Static) (es : List Expr) (ts : List Static) (t : Static) (id token : ℕ) (st : List Operand → Step) → t ≡ type_at F id
      → ((before : Counter) (o : Draft) → Stands o → FineArgs o ts (arguments P types 0 before (map (part_of P) es) o))
      → ((slots : List Ty) (xs : List Operand) → ArgsFit slots ts xs → StepFits P C gives slots t (st xs))
      → Means t (λ o. let r = arguments P types 0 (Begun id) (map (part_of P) es) o in valued (step_had P id r.value.counter (Some (st r.value.operands))) id token r.out)
  asked_means types es ts t id token st q takes fits o s =
      let r = arguments P types 0 (Begun id) (map (part_of P) es) o in
      let y = takes (Begun id) o s in
      behind t _ id token o r.out y.goes (made_fits r.out.slots id t (st r.value.operands) r.value.counter q (fits r.out.slots r.value.operands y.args))

  call_step : (number : ℕ) (fact : MethodFact) (slots : List Ty) (a : Operand) (xs : List Operand) → by_number F.methods number ≡ Some fact → OperandFits slots (static.Object fact.class) a → ArgsFit slots fact.params xs → StepFits P C gives slots fact.result (step.Call a number xs)
  call_step number fact slots a xs e h k =
      let m = code.methods number fact e in
      let count : length xs ≡ m.method.params = args_count slots fact.params xs k ∙ sym m.params in
      let first : (more : List Ty) → Grows slots more → AreFirst more (a ∷ xs) m.method.slots = λ more g. subst (λ (ts : List Ty). AreFirst more (a ∷ xs) ts) (sym m.slots) (has_ty more (static.Object fact.class) a (operand_more slots more _ a g h), args_first more fact.params xs m.behind (args_more slots more fact.params xs g k)) in
      record {
        null = result_null fact.result (code.results number fact e);
        writes = λ more g v to w. (m.method, m.there, count, first more g, (code_type fact.result, m.gives ∙ result_some fact.result v, w));
        unused = λ more g v. (m.method, m.there, count, first more g, m.gives ∙ result_none fact.result v);
      }

  method_means : (x : Expr) (of : Option Expr) (es : List Expr) (number : ℕ) (fact : MethodFact) (token : ℕ) → named_at F x.id ≡ named.Method number → by_number F.methods number ≡ Some fact → fact.result ≡ type_at F x.id
      → ((o : Draft) → Stands o → FineReceiving o (static.Object fact.class) (received P false (option_map (part_of P) of) x.id o))
      → ((types : List Static) (place : ℕ) (before : Counter) → AreWanted types place fact.params → AreValues fact.params → (o : Draft) → Stands o → FineArgs o fact.params (arguments P types place before (map (part_of P) es) o))
      → Means (type_at F x.id) (call_low P (named_at F x.id) (option_map (part_of P) of) (map (part_of P) es) x.id token)
  method_means x of es number fact token e k q receives takes =
      let types = params_of F (named.Method number) in
      let known : types ≡ fact.params = ap params_in k in
      let args : (before : Counter) (o : Draft) → Stands o → FineArgs o fact.params (arguments P types 0 before (map (part_of P) es) o) = λ before o s. takes types 0 before (subst (λ ts. AreWanted ts 0 fact.params) (sym known) (all_wanted [] fact.params)) (are_values fact.params (λ place t h. code.params number place fact t k h)) o s in
      subst (λ (n : Named). Means (type_at F x.id) (call_low P n (option_map (part_of P) of) (map (part_of P) es) x.id token)) (sym e)
      (subst (λ t. Means t (call_low P (named.Method number) (option_map (part_of P) of) (map (part_of P) es) x.id token)) q
      (called_means types of es (static.Object fact.class) fact.params fact.result x.id token (λ a xs. step.Call a number xs) q receives args (λ slots a xs h w. call_step number fact slots a xs k h w)))

  first_fits : (t : Static) (slots : List Ty) (xs : List Operand) → ArgsFit slots (t ∷ []) xs → OperandFits slots t (first_of xs)
  first_fits t slots [] h = absurd h
  first_fits t slots (a ∷ xs) h = h.0

  truth : IsPlain static.Boolean
  truth = record { void = refl; null = refl }

  -- a method of a text or of rows, as a step of its receiver and its arguments
  library_means : (n : Named) (u : Static) (ts : List Static) (t : Static) → IsLibrary n u ts t → (of : Expr) (es : List Expr) (id token : ℕ) → t ≡ type_at F id
      → ((o : Draft) → Stands o → FineReceiving o u (received P false (Some (part_of P of)) id o))
      → ((types : List Static) (place : ℕ) (before : Counter) → AreWanted types place ts → AreValues ts → (o : Draft) → Stands o → FineArgs o ts (arguments P types place before (map (part_of P) es) o))
      → Means t (call_low P n (Some (part_of P of)) (map (part_of P) es) id token)
  library_means _ _ _ _ typing.IsLibrary.text_length of es id token q receives takes =
      called_means [] (Some of) es static.Text [] static.Int id token (λ a xs. step.Op op.Length a None) q receives (λ before o s. takes [] 0 before tt tt o s)
      (λ slots a xs h w. step_fits slots static.Int (step.Op op.Length a None) (record { void = refl; null = refl }) (λ more g to k. (ty.Text, ty.Text, ty.Int, ty_more slots more a ty.Text g (has_ty slots static.Text a h), refl, refl, k)))
  library_means _ _ _ _ typing.IsLibrary.text_equals of es id token q receives takes =
      called_means [] (Some of) es static.Text (static.Text ∷ []) static.Boolean id token (λ a xs. step.Op op.Equals a (Some (first_of xs))) q receives (λ before o s. takes [] 0 before (IsWanted.unknown refl (λ e. absurd (cc e)), tt) (refl, tt) o s)
      (λ slots a xs h w. step_fits slots static.Boolean (step.Op op.Equals a (Some (first_of xs))) truth (λ more g to k. (ty.Text, ty.Text, ty.Bool, ty_more slots more a ty.Text g (has_ty slots static.Text a h), ty_more slots more (first_of xs) ty.Text g (has_ty slots static.Text (first_of xs) (first_fits static.Text slots xs w)), refl, k)))
  library_means _ _ _ _ typing.IsLibrary.next of es id token q receives takes =
      called_means [] (Some of) es static.ResultSet [] static.Boolean id token (λ a xs. step.Next a) q receives (λ before o s. takes [] 0 before tt tt o s)
      (λ slots a xs h w. step_fits slots static.Boolean (step.Next a) truth (λ more g to k. (ty_more slots more a ty.Rows g (has_ty slots static.ResultSet a h), k)))
  library_means _ _ _ _ typing.IsLibrary.get_long of es id token q receives takes =
      called_means [] (Some of) es static.ResultSet (static.Int ∷ []) static.Long id token (λ a xs. step.Long a (first_of xs)) q receives (λ before o s. takes [] 0 before (IsWanted.unknown refl (λ e. absurd (cc e)), tt) (refl, tt) o s)
      (λ slots a xs h w. step_fits slots static.Long (step.Long a (first_of xs)) (record { void = refl; null = refl }) (λ more g to k. (ty_more slots more a ty.Rows g (has_ty slots static.ResultSet a h), ty_more slots more (first_of xs) ty.Int g (has_ty slots static.Int (first_of xs) (first_fits static.Int slots xs w)), k)))
  library_means _ _ _ _ typing.IsLibrary.get_string of es id token q receives takes =
      called_means [] (Some of) es static.ResultSet (static.Int ∷ []) static.Text id token (λ a xs. step.Text a (first_of xs)) q receives (λ before o s. takes [] 0 before (IsWanted.unknown refl (λ e. absurd (cc e)), tt) (refl, tt) o s)
      (λ slots a xs h w. step_fits slots static.Text (step.Text a (first_of xs)) (record { void = refl; null = refl }) (λ more g to k. (ty_more slots more a ty.Rows g (has_ty slots static.ResultSet a h), ty_more slots more (first_of xs) ty.Int g (has_ty slots static.Int (first_of xs) (first_fits static.Int slots xs w)), k)))

  -- ---- calls of `Db`

  abbrev Takes : Operation → List Expr → Type 0
  Takes o es = (types : List Static) (place : ℕ) (before : Counter) → AreWanted types place o.params → AreValues o.params → (d : Draft) → Stands d → FineArgs d o.params (arguments P types place before (map (part_of P) es) d)

  -- the parameters of a statement, as a call asks for them
  taken : (o : Operation) (types : List Static) (es : List Expr) → types ≡ o.params → AreSendable o.params → Takes o es → (before : Counter) (d : Draft) → Stands d → FineArgs d o.params (arguments P types 0 before (map (part_of P) es) d)
  taken o types es e sends takes before d s = takes types 0 before (subst (λ ts. AreWanted ts 0 o.params) (sym e) (all_wanted [] o.params)) (sendable_values o.params sends) d s

  query_means : (x : Expr) (of : Option Expr) (written : Expr) (es : List Expr) (number site : ℕ) (o : Operation) (token : ℕ) → AsksRows F (named_at F x.id) → named_at F x.id ≡ named.Query number site → by_number F.operations number ≡ Some o → type_at F x.id ≡ static.ResultSet → AreSendable o.params → Takes o es
      → Means (type_at F x.id) (call_low P (named_at F x.id) (option_map (part_of P) of) (map (part_of P) (written ∷ es)) x.id token)
  query_means x of written es number site o token asks e k d sends takes =
      let n = named.Query number site in
      let types = params_of F n in
      let there = code.sites x.id site (kind.Rows number) (ap site_of e) (ap (λ m. kind_of m (type_at F x.id)) e) in
      let rows : is_query o.statement ≡ true = query_is o.statement ∙ asks number site o e k in
      let args = taken o types es (ap operands_in k) sends takes in
      let fits : (slots : List Ty) (xs : List Operand) → ArgsFit slots o.params xs → StepFits P C gives slots static.ResultSet (step.Query number site xs) =
      (λ slots xs w. step_fits slots static.ResultSet (step.Query number site xs) (record { void = refl; null = refl }) (λ more g to z. (o.statement, code.statements number o k, rows, there, args_sent more o.params xs sends (args_more slots more o.params xs g w), z))) in
      subst (λ (m : Named). Means (type_at F x.id) (call_low P m (option_map (part_of P) of) (map (part_of P) (written ∷ es)) x.id token)) (sym e)
      (subst (λ t. Means t (call_low P n (option_map (part_of P) of) (map (part_of P) (written ∷ es)) x.id token)) (sym d)
      (asked_means types es o.params static.ResultSet x.id token (λ xs. step.Query number site xs) (sym d) args fits))

  update_means : (x : Expr) (of : Option Expr) (written : Expr) (es : List Expr) (number : ℕ) (o : Operation) (token : ℕ) → named_at F x.id ≡ named.Update number → by_number F.operations number ≡ Some o → is_select o.statement ≡ false → type_at F x.id ≡ static.Int → AreSendable o.params → Takes o es
      → Means (type_at F x.id) (call_low P (named_at F x.id) (option_map (part_of P) of) (map (part_of P) (written ∷ es)) x.id token)
  update_means x of written es number o token e k c d sends takes =
      let n = named.Update number in
      let types = params_of F n in
      let none : is_query o.statement ≡ false = query_is o.statement ∙ c in
      let args = taken o types es (ap operands_in k) sends takes in
      let fits : (slots : List Ty) (xs : List Operand) → ArgsFit slots o.params xs → StepFits P C gives slots static.Int (step.Update number xs) =
      (λ slots xs w. step_fits slots static.Int (step.Update number xs) (record { void = refl; null = refl }) (λ more g to z. (o.statement, code.statements number o k, none, args_sent more o.params xs sends (args_more slots more o.params xs g w), z))) in
      subst (λ (m : Named). Means (type_at F x.id) (call_low P m (option_map (part_of P) of) (map (part_of P) (written ∷ es)) x.id token)) (sym e)
      (subst (λ t. Means t (call_low P n (option_map (part_of P) of) (map (part_of P) (written ∷ es)) x.id token)) (sym d)
      (asked_means types es o.params static.Int x.id token (λ xs. step.Update number xs) (sym d) args fits))

  -- ---- bare numbers

  rolled : (x : Expr) (form : ExprForm) (y : ExprForm-F ExprForm Expr) → x.form ≡ form → form ≡ roll-ExprForm y → number_of x ≡ number_in y
  rolled x form y h k = ap number_in (ap out-ExprForm (h ∙ k) ∙ out-roll-ExprForm y)

  no_number : (x : Expr) (u : Static) → number_of x ≡ None → (v : Value) → number_of x ≡ Some v → IsNumberOf u v
  no_number x u n v e = absurd (cc (sym n ∙ e))

  number_is : (x : Expr) → IsTypedExpr F locals x → (v : Value) → number_of x ≡ Some v → IsNumberOf (type_at F x.id) v
  number_is _ (typing.IsTypedExpr.number x digits long h e) = λ v k. record { digits = digits; long = long; value = ap some_value (sym k ∙ rolled x _ (f.Number digits long) h (sym (rolls-Number digits long))); ty = e }
  number_is _ (typing.IsTypedExpr.text x bytes h e) = no_number x _ (rolled x _ (f.Str bytes) h (sym (rolls-Str bytes)))
  number_is _ (typing.IsTypedExpr.truth x h e) = no_number x _ (rolled x _ f.True h (sym rolls-True))
  number_is _ (typing.IsTypedExpr.falsehood x h e) = no_number x _ (rolled x _ f.False h (sym rolls-False))
  number_is _ (typing.IsTypedExpr.null x h e) = no_number x _ (rolled x _ f.Null h (sym rolls-Null))
  number_is _ (typing.IsTypedExpr.this x h e) = no_number x _ (rolled x _ f.This h (sym rolls-This))
  number_is _ (typing.IsTypedExpr.variable x n h v) = no_number x _ (rolled x _ (f.Name n) h (sym (rolls-Name n)))
  number_is _ (typing.IsTypedExpr.group x inner h e s) = no_number x _ (rolled x _ (f.Group inner) h (sym (rolls-Group inner)))
  number_is _ (typing.IsTypedExpr.field x of n h m s) = no_number x _ (rolled x _ (f.Field of n) h (sym (rolls-Field of n)))
  number_is _ (typing.IsTypedExpr.indexed x of index t h e d s i) = no_number x _ (rolled x _ (f.Index of index) h (sym (rolls-Index of index)))
  number_is _ (typing.IsTypedExpr.call x of n args method fact h e k d r a) = no_number x _ (rolled x _ (f.Call of n args) h (sym (rolls-Call of n args)))
  number_is _ (typing.IsTypedExpr.library x of n args params h l s a) = no_number x _ (rolled x _ (f.Call (Some of) n args) h (sym (rolls-Call (Some of) n args)))
  number_is _ (typing.IsTypedExpr.query x of n written args number site o h e k d p a) = no_number x _ (rolled x _ (f.Call of n (written ∷ args)) h (sym (rolls-Call of n (written ∷ args))))
  number_is _ (typing.IsTypedExpr.update x of n written args number o h e k c d p a) = no_number x _ (rolled x _ (f.Call of n (written ∷ args)) h (sym (rolls-Call of n (written ∷ args))))
  number_is _ (typing.IsTypedExpr.new_object x n class site h e d) = no_number x _ (rolled x _ (f.NewObject n) h (sym (rolls-NewObject n)))
  number_is _ (typing.IsTypedExpr.new_array x size b site t h e d s) = no_number x _ (rolled x _ (f.NewArray b size) h (sym (rolls-NewArray b size)))
  number_is _ (typing.IsTypedExpr.prefix x y s h g k) = no_number x _ (rolled x _ (f.Prefix s y) h (sym (rolls-Prefix s y)))
  number_is _ (typing.IsTypedExpr.binary x l r s at h g a b) = no_number x _ (rolled x _ (f.Binary s at l r) h (sym (rolls-Binary s at l r)))

  -- ---- all expressions

  asked : (x : Expr) → IsUsed F x → uses.IsAsked F x
  asked _ (uses.IsUsed.used x a k) = a

  part : (x y : Expr) → IsUsed F x → IsPart y x → IsUsed F y
  part _ y (uses.IsUsed.used x a k) p = k y p

  literal_typed : (slots : List Ty) (digits : List ℕ) (long : Bool) → OperandFits slots (literal_type long) (Literal (literal digits long))
  literal_typed slots digits true = OperandFits.plain static.Long (Literal (literal digits true)) refl refl
  literal_typed slots digits false = OperandFits.plain static.Int (Literal (literal digits false)) refl refl

  library_void : (n : Named) (u : Static) (ts : List Static) (t : Static) → IsLibrary n u ts t → is_void u ≡ false
  library_void _ _ _ _ typing.IsLibrary.text_length = refl
  library_void _ _ _ _ typing.IsLibrary.text_equals = refl
  library_void _ _ _ _ typing.IsLibrary.next = refl
  library_void _ _ _ _ typing.IsLibrary.get_long = refl
  library_void _ _ _ _ typing.IsLibrary.get_string = refl

  mutual
    pub expression_means : (x : Expr) → IsTypedExpr F locals x → IsUsed F x → Means (type_at F x.id) (says x)
    expression_means _ (typing.IsTypedExpr.number x digits long h e) u =
        means_by x (type_at F x.id) _ (low_number P x digits long h) (subst (λ t. Means t (valued (stands (literal digits long)) x.id x.token)) (sym e) (had_means (literal_type long) (stands (literal digits long)) x.id x.token (λ o s. literal_typed o.slots digits long)))
    expression_means _ (typing.IsTypedExpr.text x bytes h e) u = means_by x (type_at F x.id) _ (low_text P x bytes h) (had_means (type_at F x.id) (stands (value.Text bytes)) x.id x.token (λ o s. subst (λ t. OperandFits o.slots t (Literal (value.Text bytes))) (sym e) (OperandFits.plain static.Text (Literal (value.Text bytes)) refl refl)))
    expression_means _ (typing.IsTypedExpr.truth x h e) u = means_by x (type_at F x.id) _ (low_true P x h) (had_means (type_at F x.id) (stands (value.Bool true)) x.id x.token (λ o s. subst (λ t. OperandFits o.slots t (Literal (value.Bool true))) (sym e) (OperandFits.plain static.Boolean (Literal (value.Bool true)) refl refl)))
    expression_means _ (typing.IsTypedExpr.falsehood x h e) u = means_by x (type_at F x.id) _ (low_false P x h) (had_means (type_at F x.id) (stands (value.Bool false)) x.id x.token (λ o s. subst (λ t. OperandFits o.slots t (Literal (value.Bool false))) (sym e) (OperandFits.plain static.Boolean (Literal (value.Bool false)) refl refl)))
    expression_means _ (typing.IsTypedExpr.null x h e) u = means_by x (type_at F x.id) _ (low_null P x h) (had_means (type_at F x.id) (stands value.Null) x.id x.token (λ o s. subst (λ t. OperandFits o.slots t (Literal value.Null)) (sym e) (OperandFits.null static.Null tt)))
    expression_means _ (typing.IsTypedExpr.this x h e) u = means_by x (type_at F x.id) _ (low_this P x h) (had_means (type_at F x.id) (Held (Slot 0)) x.id x.token (λ o s. slot_plain o.slots (type_at F x.id) 0 (values 0 (type_at F x.id) e) (s 0 (type_at F x.id) e)))
    expression_means _ (typing.IsTypedExpr.variable x n h v) u = means_by x (type_at F x.id) _ (low_name P x n h) (had_means (type_at F x.id) (name_had P (named_at F x.id) x.id) x.id x.token (name_fits (named_at F x.id) (type_at F x.id) x.id v refl))
    expression_means _ (typing.IsTypedExpr.group x inner h e s) u = means_by x (type_at F x.id) _ (low_group P x inner inner h refl) (subst (λ t. Means t (says inner)) e (expression_means inner s (part x inner u (uses.IsPart.grouped x inner h))))
    expression_means _ (typing.IsTypedExpr.field x of n h m s) u = means_by x (type_at F x.id) _ (low_field P x of of n h refl) (λ o d.
        let a = operand_means of (type_at F of.id) (expression_means of s (part x of u (uses.IsPart.holder x of n h))) (member_void (named_at F x.id) (type_at F of.id) (type_at F x.id) m) o d in
        let y = operand_at P (part_of P of) o in
        behind (type_at F x.id) _ x.id x.token o y.out a.goes (member_fits (named_at F x.id) (type_at F of.id) (type_at F x.id) x.id m refl y.out.slots y.operand of.id a.operand))
    expression_means _ (typing.IsTypedExpr.indexed x of index t h e d s i) u =
        means_by x (type_at F x.id) _ (low_index P x of of index index h refl refl)
        (index_means x.id x.token t of index d (subst (λ w. Means w (says of)) e (expression_means of s (part x of u (uses.IsPart.array x of index h))))
        (subst (λ w. Means w (says index)) ((asked x u).index of index h) (expression_means index i (part x index u (uses.IsPart.index x of index h)))))
    expression_means _ (typing.IsTypedExpr.call x of n args method fact h e k d r a) u =
        means_by x (type_at F x.id) _ (low_call P x of n args h)
        (method_means x of args method fact x.token e k d (receiver_means (static.Object fact.class) of r (λ y q. part x y u (uses.IsPart.receiver x y n args (h ∙ ap (λ z. Call z n args) q))) refl x.id)
        (arguments_mean fact.params args a (λ place y q. part x y u (uses.IsPart.argument x y of n args place h q))))
    expression_means _ (typing.IsTypedExpr.library x of n args params h l s a) u =
        means_by x (type_at F x.id) _ (low_call P x (Some of) n args h)
        (library_means (named_at F x.id) (type_at F of.id) params (type_at F x.id) l of args x.id x.token refl
        (λ o d. let b = operand_means of (type_at F of.id) (expression_means of s (part x of u (uses.IsPart.receiver x of n args h))) (library_void (named_at F x.id) (type_at F of.id) params (type_at F x.id) l) o d in record { goes = b.goes; operand = b.operand })
        (arguments_mean params args a (λ place y q. part x y u (uses.IsPart.argument x y (Some of) n args place h q))))
    expression_means _ (typing.IsTypedExpr.query x of n written args number site o h e k d p a) u =
        means_by x (type_at F x.id) _ (low_call P x of n (written ∷ args) h)
        (query_means x of written args number site o x.token ((asked x u).query of n (written ∷ args) h) e k d p ((arguments_mean o.params args a (λ place y q. part x y u (uses.IsPart.argument x y of n (written ∷ args) (suc place) h q)))))
    expression_means _ (typing.IsTypedExpr.update x of n written args number o h e k c d p a) u =
        means_by x (type_at F x.id) _ (low_call P x of n (written ∷ args) h)
        (update_means x of written args number o x.token e k c d p ((arguments_mean o.params args a (λ place y q. part x y u (uses.IsPart.argument x y of n (written ∷ args) (suc place) h q)))))
    expression_means _ (typing.IsTypedExpr.new_object x n class site h e d) u = means_by x (type_at F x.id) _ (low_new_object P x n h) (object_means (named_at F x.id) (type_at F x.id) x.id x.token class site refl e refl d)
    expression_means _ (typing.IsTypedExpr.new_array x size b site t h e d s) u =
        means_by x (type_at F x.id) _ (low_new_array P x size size b h refl)
        (array_means x.id x.token site t size e d (subst (λ w. Means w (says size)) ((asked x u).size b size h) (expression_means size s (part x size u (uses.IsPart.size x size b h)))))
    expression_means _ (typing.IsTypedExpr.prefix x y s h g k) u =
        means_by x (type_at F x.id) _ (low_prefix P x y y s h refl)
        (prefix_means (literal_behind s (number_of y)) (prefix_of s (type_at F y.id)) y (type_at F y.id) (type_at F x.id) x.id x.token refl g (prefix_joins_none s (type_at F y.id))
        (λ v e slots. literal_fits s (number_of y) (type_at F y.id) (type_at F x.id) slots g (number_is y k) v e) (expression_means y k (part x y u (uses.IsPart.operand x y s h))))
    expression_means _ (typing.IsTypedExpr.binary x l r s at h g a b) u =
        means_by x (type_at F x.id) _ (low_binary P x l r l r s at h refl refl)
        (binary_means s l r (type_at F l.id) (type_at F r.id) (type_at F x.id) x.id x.token refl (sign_is s (type_at F l.id) (type_at F r.id) (type_at F x.id) g) refl refl ((asked x u).choice s at l r h) ((asked x u).joined s at l r h)
        (expression_means l a (part x l u (uses.IsPart.left x l r s at h))) (expression_means r b (part x r u (uses.IsPart.right x l r s at h))))

    receiver_means : (t : Static) (of : Option Expr) → IsReceiver F locals t of → ((y : Expr) → of ≡ Some y → IsUsed F y) → is_void t ≡ false → (id : ℕ) (o : Draft) → Stands o → FineReceiving o t (received P false (option_map (part_of P) of) id o)
    receiver_means _ _ (typing.IsReceiver.own t e) u v id o s = record { goes = goes_none P C gives o; operand = slot_plain o.slots t 0 (values 0 t e) (s 0 t e) }
    receiver_means _ _ (typing.IsReceiver.of t x e k) u v id o s =
        let a = operand_means x t (subst (λ w. Means w (says x)) e (expression_means x k (u x refl))) v o s in
        record { goes = a.goes; operand = a.operand }

    arguments_mean : (ts : List Static) (es : List Expr) → AreArguments F locals ts es → ((place : ℕ) (y : Expr) → slice_get es place ≡ Some y → IsUsed F y) → (types : List Static) (place : ℕ) (before : Counter) → AreWanted types place ts → AreValues ts → (o : Draft) → Stands o → FineArgs o ts (arguments P types place before (map (part_of P) es) o)
    arguments_mean _ _ typing.AreArguments.none u types place before w v o s = record { goes = goes_none P C gives o; args = tt }
    arguments_mean _ _ (typing.AreArguments.more t ts x xs k d a) u types place before w v o s =
        one_more_fine x (slice_index_or types place static.Unknown) t ts o s w.0 v.0 k (expression_means x d (u 0 x refl)) (arguments P types (place + 1) (Completed x.id) (map (part_of P) xs))
        (λ d s. arguments_mean ts xs a (λ place y q. u (suc place) y q) types (place + 1) (Completed x.id) w.1 v.1 d s)
