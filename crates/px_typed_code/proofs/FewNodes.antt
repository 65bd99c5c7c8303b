-- An expression adds few nodes.
use Rattle.std.proofs.Common.{◌≡◌, ℕ, ◌+◌, ◌≤◌, Bool, true, false, List, [], ◌∷◌, if◌then◌else◌, length, length-append, map, drop, Option, Some, None, option_map, slice_index_or, refl, sym, ap, ◌∙◌, subst, arith}
use Rattle.px_value.specs.declared.value.Value.{Value}
use Rattle.px_value.specs.declared.value.Value.TheVariants as value
use Rattle.px_value.specs.declared.op.Op.{Op}
use Rattle.px_tree.specs.declared.Name.{Name as NameData}
use Rattle.px_tree.specs.declared.Expr.{Expr}
use Rattle.px_tree.specs.declared.ExprForm.TheVariants as e
use Rattle.px_tree.specs.declared.ExprForm.TheOpen.{ExprForm-F as f}
use Rattle.px_facts.specs.declared.types.Ty.{Ty as Static}
use Rattle.px_facts.specs.declared.types.Ty.TheVariants as static
use Rattle.px_facts.specs.declared.checked.Checked.{Checked}
use Rattle.px_facts.specs.declared.checked.Named.{Named}
use Rattle.px_mean.specs.Facts.{type_at, named_at, params_of}
use Rattle.px_mean.specs.Expressions.{literal, is_operation}
use Rattle.px_mean.specs.Typing as typing
use Rattle.px_mean.specs.Typing.{IsLibrary, IsTypedExpr, IsReceiver, AreArguments}
use Rattle.px_normal.specs.declared.ty.Ty.TheVariants as ty
use Rattle.px_normal.specs.declared.word.Word.{Word}
use Rattle.px_normal.specs.declared.word.Word.TheVariants as w
use Rattle.px_normal.specs.declared.word.Operand.TheVariants.{Slot, Literal}
use Rattle.px_normal.specs.declared.node.Counter.{Counter}
use Rattle.px_normal.specs.declared.node.Counter.TheVariants.{Begun, Completed}
use Rattle.px_lowering.specs.declared.draft.Draft.{Draft}
use Rattle.px_lowering.specs.declared.valued.Step.TheVariants as step
use Rattle.px_lowering.specs.declared.valued.Had.{Had}
use Rattle.px_lowering.specs.declared.valued.Had.TheVariants.{Held, Chosen, Made}
use Rattle.px_lowering.specs.Emit.{node_at, noded, emitted, writes, with_temp, with_trees, operated, temped, temp_of, slotted, widened, fitted}
use Rattle.px_lowering.specs.Expressions.{Lowers, Part, Low, valued, stands, made, name_had, member_had, object_had, array_had, operand_at, fit_to, fitted_operand, prefix_low, two_low, choice_low, choice_of, by_choice, received, arguments, step_of, step_had, call_low, low, part_of}
use Rattle.px_lowering.proofs.Forms.{low_number, low_text, low_true, low_false, low_null, low_this, low_name, low_group, low_field, low_index, low_call, low_new_object, low_new_array, low_prefix, low_binary}
use Rattle.px_typed_code.specs.Sizes.{total, if_any, expressions, fourfold}
use Rattle.px_typed_code.proofs.Few.{need, need_one, parts_at}

abbrev pub count : Draft → ℕ
count o = length o.nodes

module _ (P : Checked) where
  pub emitted_count : (w : Word) (token : ℕ) (counter : Counter) (o : Draft) → count (emitted P w token counter o) ≡ count o + 1
  emitted_count w token counter o = length-append o.nodes (node_at P o.method token counter ∷ [])

  pub noded_count : (token : ℕ) (counter : Counter) (o : Draft) → count (noded P token counter o) ≡ count o + 1
  noded_count token counter o = length-append o.nodes (node_at P o.method token counter ∷ [])

  pub operated_count : (token : ℕ) (had : Had) (o : Draft) → count (operated P token had o).out ≡ count o + need had
  operated_count token (Held a) o = omega arith
  operated_count token (Chosen slot) o = omega arith
  operated_count token (Made s t counter) o = emitted_count (writes s (length o.slots)) token counter (with_temp t o)

  temped_count : (for id token : ℕ) (had : Had) (o : Draft) → count (temped P for id token had o).out ≤ count o + 1
  temped_count for id token (Held a) o = omega (arith, emitted_count (w.Set (length o.slots) a) for (Completed id) (with_temp ty.Bool o))
  temped_count for id token (Chosen slot) o = omega arith
  temped_count for id token (Made s t counter) o = omega (arith, emitted_count (writes s (length o.slots)) token counter (with_temp t o))

  pub slotted_count : (slot for id token : ℕ) (had : Had) (o : Draft) → count (slotted P slot for id token had o) ≡ count o + 1
  slotted_count slot for id token (Held a) o = emitted_count (w.Set slot a) for (Completed id) o
  slotted_count slot for id token (Chosen from) o = emitted_count (w.Set slot (Slot from)) for (Completed id) o
  slotted_count slot for id token (Made s t counter) o = emitted_count (writes s slot) token counter o

  -- an expression of which there are so many adds four nodes for each of these, but one, which may still come
  abbrev pub Few : ℕ → Lowers → Type 0
  Few n l = (o : Draft) → count (l o).out + need (l o).value.had + 1 ≤ count o + fourfold n

  few_by : (x : Expr) (n : ℕ) (l : Low) → low P x ≡ l → expressions x ≡ n → Few n l.part.lower → Few (expressions x) (low P x).part.lower
  few_by x n l e q h = subst (λ (k : ℕ). Few k (low P x).part.lower) (sym q) (subst (λ (k : Low). Few n k.part.lower) (sym e) h)

  few_valued : (h : Had) (id token n : ℕ) → Few (1 + n) (valued h id token)
  few_valued h id token n o = omega (arith, need_one h)

  pub operand_few : (x : Expr) → Few (expressions x) (low P x).part.lower → (o : Draft) → count (operand_at P (part_of P x) o).out + 1 ≤ count o + fourfold (expressions x)
  operand_few x h o =
      let l = (low P x).part.lower o in
      omega (arith, h o, operated_count l.value.token l.value.had l.out)

  -- behind others
  behind : (h : Had) (id token n : ℕ) (o o' : Draft) → count o' ≤ count o + fourfold n → count (valued h id token o').out + need h + 1 ≤ count o + fourfold (1 + n)
  behind h id token n o o' k = omega (arith, need_one h, k)

  -- ---- where a type is wanted

  widened_count : (id token : ℕ) (had : Had) (o : Draft) → count (widened P id token had o).out + need (widened P id token had o).value.had ≤ count o + need had + 1
  widened_count id token (Held (Literal (value.Int n))) o = omega arith
  widened_count id token (Held (Slot k)) o = omega arith
  widened_count id token (Held (Literal (value.Long n))) o = omega arith
  widened_count id token (Held (Literal (value.Bool b))) o = omega arith
  widened_count id token (Held (Literal (value.Text bytes))) o = omega arith
  widened_count id token (Held (Literal value.Null)) o = omega arith
  widened_count id token (Held (Literal (value.Ref r))) o = omega arith
  widened_count id token (Chosen slot) o = omega arith
  widened_count id token (Made s t counter) o = omega (arith, emitted_count (writes s (length o.slots)) token counter (with_temp t o))

  fitted_count : (from to : Static) (id token : ℕ) (had : Had) (o : Draft) → count (fitted P from to id token had o).out + need (fitted P from to id token had o).value.had ≤ count o + need had + 1
  fitted_count static.Unknown to id token had o = omega arith
  fitted_count static.Void to id token had o = omega arith
  fitted_count static.Null to id token had o = omega arith
  fitted_count static.Int static.Unknown id token had o = omega arith
  fitted_count static.Int static.Void id token had o = omega arith
  fitted_count static.Int static.Null id token had o = omega arith
  fitted_count static.Int static.Int id token had o = omega arith
  fitted_count static.Int static.Long id token had o = widened_count id token had o
  fitted_count static.Int static.Boolean id token had o = omega arith
  fitted_count static.Int static.Text id token had o = omega arith
  fitted_count static.Int (static.Object class) id token had o = omega arith
  fitted_count static.Int (static.Array of) id token had o = omega arith
  fitted_count static.Int static.ResultSet id token had o = omega arith
  fitted_count static.Long to id token had o = omega arith
  fitted_count static.Boolean to id token had o = omega arith
  fitted_count static.Text to id token had o = omega arith
  fitted_count (static.Object class) to id token had o = omega arith
  fitted_count (static.Array of) to id token had o = omega arith
  fitted_count static.ResultSet to id token had o = omega arith

  pub fit_few : (x : Expr) (to : Static) → Few (expressions x) (low P x).part.lower → (o : Draft) → count (fit_to P to (part_of P x) o).out + need (fit_to P to (part_of P x) o).value.had ≤ count o + fourfold (expressions x)
  fit_few x to h o =
      let l = (low P x).part.lower o in
      omega (arith, h o, fitted_count (type_at P.facts x.id) to l.value.id l.value.token l.value.had l.out)

  pub fitted_few : (x : Expr) (to : Static) → Few (expressions x) (low P x).part.lower → (o : Draft) → count (fitted_operand P to (part_of P x) o).out ≤ count o + fourfold (expressions x)
  fitted_few x to h o =
      let l = fit_to P to (part_of P x) o in
      omega (arith, fit_few x to h o, operated_count l.value.token l.value.had l.out)

  -- ---- operators

  two_few : (g : Op) (l r : Expr) (id token : ℕ) → Few (expressions l) (low P l).part.lower → Few (expressions r) (low P r).part.lower → Few (1 + (expressions l + expressions r)) (two_low P g (part_of P l) (part_of P r) id token)
  two_few g l r id token h k o =
      let a = operand_at P (part_of P l) o in
      omega (arith, operand_few l h o, operand_few r k a.out)

  choice_few : (both : Bool) (l r : Expr) (id token : ℕ) → Few (expressions l) (low P l).part.lower → Few (expressions r) (low P r).part.lower → Few (1 + (expressions l + expressions r)) (choice_low P both (part_of P l) (part_of P r) id token)
  choice_few both l r id token h k o =
      let x = (low P l).part.lower o in
      let a = temp_of P token x in
      let o3 = with_trees [] (noded P token (Completed l.id) a.out) in
      let v = (low P r).part.lower o3 in
      omega (arith, h o, temped_count token x.value.id x.value.token x.value.had x.out, noded_count token (Completed l.id) a.out, k o3, slotted_count a.temp token v.value.id v.value.token v.value.had v.out)

  binary_few : (c : Option Bool) (g : Op) (l r : Expr) (id token : ℕ) → Few (expressions l) (low P l).part.lower → Few (expressions r) (low P r).part.lower → Few (1 + (expressions l + expressions r)) (by_choice P c g (part_of P l) (part_of P r) id token)
  binary_few None g l r id token h k = two_few g l r id token h k
  binary_few (Some both) g l r id token h k = choice_few both l r id token h k

  prefix_few : (number : Option Value) (g : Option Op) (x : Expr) (id token : ℕ) → Few (expressions x) (low P x).part.lower → Few (1 + expressions x) (prefix_low P number g (part_of P x) id token)
  prefix_few (Some v) g x id token h o = omega arith
  prefix_few None None x id token h o = omega (arith, h o)
  prefix_few None (Some g) x id token h o = omega (arith, operand_few x h o)

  -- ---- calls

  abbrev FewIf : Option Expr → Type 0
  FewIf None = Unit {0}
  FewIf (Some x) = Few (expressions x) (low P x).part.lower

  abbrev AllFew : List Expr → Type 0
  AllFew [] = Unit {0}
  AllFew (x ∷ xs) = Few (expressions x) (low P x).part.lower × AllFew xs

  arguments_few : (types : List Static) (place : ℕ) (before : Counter) (xs : List Expr) → AllFew xs → (o : Draft) → count (arguments P types place before (map (part_of P) xs) o).out ≤ count o + fourfold (total (map expressions xs))
  arguments_few types place before [] h o = omega arith
  arguments_few types place before (x ∷ xs) h o =
      let to = slice_index_or types place static.Unknown in
      let a = fitted_operand P to (part_of P x) o in
      omega (arith, fitted_few x to h.0 o, arguments_few types (place + 1) (Completed x.id) xs h.1 a.out)

  received_few : (of : Option Expr) (id : ℕ) → FewIf of → (o : Draft) → count (received P false (option_map (part_of P) of) id o).out ≤ count o + fourfold (if_any (option_map expressions of))
  received_few None id h o = omega arith
  received_few (Some x) id h o = omega (arith, operand_few x h o)

  -- a call, of which it is told whether it is one of `Db`
  abbrev call_of : Bool → Named → Option Part → List Part → (id token : ℕ) → Lowers
  call_of b n of args id token o =
      let a = received P b of id o in
      let r = arguments P (params_of P.facts n) 0 a.value.counter (if b then drop 1 args else args) a.out in
      valued (step_had P id r.value.counter (step_of n a.value.operand r.value.operands)) id token r.out

  called_few : (n : Named) (of : Option Expr) (xs : List Expr) (id token : ℕ) → is_operation n ≡ false → FewIf of → AllFew xs → Few (1 + (if_any (option_map expressions of) + total (map expressions xs))) (call_low P n (option_map (part_of P) of) (map (part_of P) xs) id token)
  called_few n of xs id token e h k = subst (λ b. Few (1 + (if_any (option_map expressions of) + total (map expressions xs))) (call_of b n (option_map (part_of P) of) (map (part_of P) xs) id token)) (sym e) (λ o.
      let a = received P false (option_map (part_of P) of) id o in
      let r = arguments P (params_of P.facts n) 0 a.value.counter (map (part_of P) xs) a.out in
      omega (arith, received_few of id h o, arguments_few (params_of P.facts n) 0 a.value.counter xs k a.out, need_one (step_had P id r.value.counter (step_of n a.value.operand r.value.operands))))

  asked_few : (n : Named) (of : Option Expr) (written : Expr) (xs : List Expr) (id token : ℕ) → is_operation n ≡ true → AllFew xs → Few (1 + (if_any (option_map expressions of) + (expressions written + total (map expressions xs)))) (call_low P n (option_map (part_of P) of) (map (part_of P) (written ∷ xs)) id token)
  asked_few n of written xs id token e k = subst (λ b. Few (1 + (if_any (option_map expressions of) + (expressions written + total (map expressions xs)))) (call_of b n (option_map (part_of P) of) (map (part_of P) (written ∷ xs)) id token)) (sym e) (λ o.
      let r = arguments P (params_of P.facts n) 0 (Begun id) (map (part_of P) xs) o in
      omega (arith, arguments_few (params_of P.facts n) 0 (Begun id) xs k o, need_one (step_had P id r.value.counter (step_of n (Slot 0) r.value.operands))))

  library_calls : (n : Named) (u : Static) (ts : List Static) (t : Static) → IsLibrary n u ts t → is_operation n ≡ false
  library_calls _ _ _ _ typing.IsLibrary.text_length = refl
  library_calls _ _ _ _ typing.IsLibrary.text_equals = refl
  library_calls _ _ _ _ typing.IsLibrary.next = refl
  library_calls _ _ _ _ typing.IsLibrary.get_long = refl
  library_calls _ _ _ _ typing.IsLibrary.get_string = refl

  call_parts : (x : Expr) (of : Option Expr) (n : NameData) (xs : List Expr) → x.form ≡ e.Call of n xs → expressions x ≡ 1 + (if_any (option_map expressions of) + total (map expressions xs))
  call_parts x None n xs h = parts_at x (f.Call None n xs) (h ∙ sym (e.rolls-Call None n xs))
  call_parts x (Some of) n xs h = parts_at x (f.Call (Some of) n xs) (h ∙ sym (e.rolls-Call (Some of) n xs))

  -- ---- all expressions

  module _ (locals : List Static) where
    mutual
      pub few : (x : Expr) → IsTypedExpr P.facts locals x → Few (expressions x) (low P x).part.lower
      few _ (typing.IsTypedExpr.number x digits long h e1) = few_by x 1 _ (low_number P x digits long h) (parts_at x (f.Number digits long) (h ∙ (sym (e.rolls-Number digits long)))) (few_valued (stands (literal digits long)) x.id x.token 0)
      few _ (typing.IsTypedExpr.text x bytes h e1) = few_by x 1 _ (low_text P x bytes h) (parts_at x (f.Str bytes) (h ∙ (sym (e.rolls-Str bytes)))) (few_valued (stands (value.Text bytes)) x.id x.token 0)
      few _ (typing.IsTypedExpr.truth x h e1) = few_by x 1 _ (low_true P x h) (parts_at x f.True (h ∙ (sym e.rolls-True))) (few_valued (stands (value.Bool true)) x.id x.token 0)
      few _ (typing.IsTypedExpr.falsehood x h e1) = few_by x 1 _ (low_false P x h) (parts_at x f.False (h ∙ (sym e.rolls-False))) (few_valued (stands (value.Bool false)) x.id x.token 0)
      few _ (typing.IsTypedExpr.null x h e1) = few_by x 1 _ (low_null P x h) (parts_at x f.Null (h ∙ (sym e.rolls-Null))) (few_valued (stands value.Null) x.id x.token 0)
      few _ (typing.IsTypedExpr.this x h e1) = few_by x 1 _ (low_this P x h) (parts_at x f.This (h ∙ (sym e.rolls-This))) (few_valued (Held (Slot 0)) x.id x.token 0)
      few _ (typing.IsTypedExpr.variable x n h v) = few_by x 1 _ (low_name P x n h) (parts_at x (f.Name n) (h ∙ (sym (e.rolls-Name n)))) (few_valued (name_had P (named_at P.facts x.id) x.id) x.id x.token 0)
      few _ (typing.IsTypedExpr.new_object x n class site h e1 d) = few_by x 1 _ (low_new_object P x n h) (parts_at x (f.NewObject n) (h ∙ (sym (e.rolls-NewObject n)))) (few_valued (object_had P (named_at P.facts x.id) x.id) x.id x.token 0)
      few _ (typing.IsTypedExpr.group x inner h e1 k) = few_by x (1 + expressions inner) _ (low_group P x inner inner h refl) (parts_at x (f.Group inner) (h ∙ sym (e.rolls-Group inner))) (λ o. omega (arith, few inner k o))
      few _ (typing.IsTypedExpr.field x of n h m k) = few_by x (1 + expressions of) _ (low_field P x of of n h refl) (parts_at x (f.Field of n) (h ∙ sym (e.rolls-Field of n))) (λ o. behind (member_had P (named_at P.facts x.id) x.id (operand_at P (part_of P of) o).operand of.id) x.id x.token (expressions of) o (operand_at P (part_of P of) o).out (omega (arith, operand_few of (few of k) o)))
      few _ (typing.IsTypedExpr.indexed x of index t h e1 d k l) = few_by x (1 + (expressions of + expressions index)) _ (low_index P x of of index index h refl refl) (parts_at x (f.Index of index) (h ∙ sym (e.rolls-Index of index))) (λ o.
          let a = operand_at P (part_of P of) o in
          behind (made P x.id (step.Load a.operand (operand_at P (part_of P index) a.out).operand) (Completed index.id)) x.id x.token (expressions of + expressions index) o (operand_at P (part_of P index) a.out).out (omega (arith, operand_few of (few of k) o, operand_few index (few index l) a.out)))
      few _ (typing.IsTypedExpr.call x of n args method fact h e1 d c r a) = few_by x _ _ (low_call P x of n args h) (call_parts x of n args h) (called_few (named_at P.facts x.id) of args x.id x.token (ap is_operation e1) (few_receiver _ of r) (few_arguments fact.params args a))
      few _ (typing.IsTypedExpr.library x of n args params h l k a) = few_by x _ _ (low_call P x (Some of) n args h) (call_parts x (Some of) n args h) (called_few (named_at P.facts x.id) (Some of) args x.id x.token (library_calls (named_at P.facts x.id) (type_at P.facts of.id) params (type_at P.facts x.id) l) (few of k) (few_arguments params args a))
      few _ (typing.IsTypedExpr.query x of n written args number site c h e1 k d p a) = few_by x _ _ (low_call P x of n (written ∷ args) h) (call_parts x of n (written ∷ args) h) (asked_few (named_at P.facts x.id) of written args x.id x.token (ap is_operation e1) (few_arguments c.params args a))
      few _ (typing.IsTypedExpr.update x of n written args number c h e1 k b d p a) = few_by x _ _ (low_call P x of n (written ∷ args) h) (call_parts x of n (written ∷ args) h) (asked_few (named_at P.facts x.id) of written args x.id x.token (ap is_operation e1) (few_arguments c.params args a))
      few _ (typing.IsTypedExpr.new_array x size b site t h e1 d k) = few_by x (1 + expressions size) _ (low_new_array P x size size b h refl) (parts_at x (f.NewArray b size) (h ∙ sym (e.rolls-NewArray b size))) (λ o. behind (array_had P (named_at P.facts x.id) (type_at P.facts x.id) x.id (operand_at P (part_of P size) o).operand size.id) x.id x.token (expressions size) o (operand_at P (part_of P size) o).out (omega (arith, operand_few size (few size k) o)))
      few _ (typing.IsTypedExpr.prefix x y g h c k) = few_by x (1 + expressions y) _ (low_prefix P x y y g h refl) (parts_at x (f.Prefix g y) (h ∙ sym (e.rolls-Prefix g y))) (prefix_few _ _ y x.id x.token (few y k))
      few _ (typing.IsTypedExpr.binary x l r g at h c a b) = few_by x (1 + (expressions l + expressions r)) _ (low_binary P x l r l r g at h refl refl) (parts_at x (f.Binary g at l r) (h ∙ sym (e.rolls-Binary g at l r))) (binary_few (choice_of g) _ l r x.id x.token (few l a) (few r b))

      few_receiver : (t : Static) (of : Option Expr) → IsReceiver P.facts locals t of → FewIf of
      few_receiver _ _ (typing.IsReceiver.own t e1) = tt
      few_receiver _ _ (typing.IsReceiver.of t x e1 k) = few x k

      few_arguments : (ts : List Static) (xs : List Expr) → AreArguments P.facts locals ts xs → AllFew xs
      few_arguments _ _ typing.AreArguments.none = tt
      few_arguments _ _ (typing.AreArguments.more t ts x xs k d a) = (few x d, few_arguments ts xs a)
