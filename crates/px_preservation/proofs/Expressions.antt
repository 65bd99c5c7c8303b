-- Each typed expression is lowered to code that does what it does.
use Rattle.std.proofs.Common.{◌≡◌, ℕ, ◌<◌, ◌≤◌, Bool, true, false, List, [], ◌∷◌, map, append-nil, length, Option, Some, None, option_map, unwrap_or, slice_get, Ok, refl, sym, ap, ◌∙◌, subst, arith}
use Rattle.std.proofs.lemmas.Option.{slice_get_within}
use Rattle.px_value.specs.declared.value.Value.{Value}
use Rattle.px_value.specs.declared.value.Value.TheVariants.{Null, Bool as Truth, Text}
use Rattle.px_value.specs.declared.op.Op.{Op}
use Rattle.px_value.specs.declared.op.Op.TheVariants as op
use Rattle.px_value.specs.Operators.{apply}
use Rattle.px_value.specs.Outcome.{Outcome, Gives, then_run, ◌>>=◌, pure, beside, on_shared}
use Rattle.px_tree.specs.declared.Sign.{Sign}
use Rattle.px_tree.specs.declared.Sign.TheVariants as sign
use Rattle.px_tree.specs.declared.Name.{Name}
use Rattle.px_tree.specs.declared.ExprForm.TheVariants as e
use Rattle.px_tree.specs.declared.Expr.{Expr, fold_out-Expr}
use Rattle.px_tree.specs.declared.ExprForm.{ExprForm, ExprForm-F, out-ExprForm, fold-ExprForm, fold_out-ExprForm, map-ExprForm}
use Rattle.px_tree.specs.declared.ExprForm.TheOpen.{ExprForm-F as f}
use Rattle.px_facts.specs.declared.types.Ty.{Ty as Static}
use Rattle.px_facts.specs.declared.types.Ty.TheVariants as static
use Rattle.px_facts.specs.declared.types.Element.{Element}
use Rattle.px_facts.specs.declared.checked.Checked.{Checked}
use Rattle.px_facts.specs.declared.checked.Named.{Named}
use Rattle.px_facts.specs.declared.checked.Named.TheVariants as named
use Rattle.px_effects.specs.Run.{Ask, came_to}
use Rattle.px_effects.specs.Cells.{first_cells}
use Rattle.px_effects.specs.Cells as cells
use Rattle.px_mean.specs.Run.{Frame as SourceFrame, Here as SourceHere}
use Rattle.px_mean.specs.Facts.{type_at, named_at, default_of, fields_of, op_of, prefix_of, element_number}
use Rattle.px_mean.specs.Effects.{load, get_field}
use Rattle.px_mean.specs.Expressions.{Around, Calls as SourceCalls, Meant, literal, slot_value, this_value, name_value, member_value, called, made_object, made_array, prefixed, binary, expr_step, numbered, meant}
use Rattle.px_mean.specs.Typing.{IsVariable, IsMember, IsLibrary, IsTypedExpr, IsReceiver, AreArguments}
use Rattle.px_mean.specs.Typing as typing
use Rattle.px_normal.specs.declared.word.Operand.TheVariants.{Slot}
use Rattle.px_normal.specs.declared.node.Counter.TheVariants.{Begun, Completed}
use Rattle.px_normal.specs.declared.code.Code.{Code}
use Rattle.px_normal.specs.First.{fresh_of}
use Rattle.px_normal.specs.Words.{operand}
use Rattle.px_normal.specs.CodeRun.{Calls}
use Rattle.px_lowering.specs.declared.draft.Draft.{Draft}
use Rattle.px_lowering.specs.declared.valued.Step.TheVariants as step
use Rattle.px_lowering.specs.declared.valued.Had.TheVariants.{Held}
use Rattle.px_lowering.specs.Types.{code_type}
use Rattle.px_lowering.specs.Emit.{Lasted}
use Rattle.px_lowering.specs.Expressions.{Low, valued, stands, operand_at, name_had, member_had, index_low, object_had, array_had, negated, number_in, number_of, literal_behind, prefix_low, two_low, binary_low, call_low, low, part_of}
use Rattle.px_lowering.proofs.Forms.{low_number, low_text, low_true, low_false, low_null, low_this, low_name, low_group, low_field, low_index, low_call, low_new_object, low_new_array, low_prefix, low_binary}
use Rattle.px_mean.proofs.Forms.{meant_number, meant_text, meant_true, meant_false, meant_null, meant_this, meant_name, meant_group, meant_field, meant_index, meant_call, meant_new_object, meant_new_array, meant_prefix, meant_binary, meant_type}
use Rattle.px_preservation.proofs.Program.{SameProgram}
use Rattle.px_preservation.proofs.Afters.{grown, after_none}
use Rattle.px_preservation.proofs.Acts.{plain_get, plain_length, plain_load, plain_array, object_same}
use Rattle.px_preservation.proofs.Operands.{IsOperand, made_none, made_one}
use Rattle.px_preservation.proofs.Fitted.{then_pure, came_same, made_two}
use Rattle.px_preservation.proofs.Choices.{chooses}
use Rattle.px_preservation.proofs.Parts.{says, operand_low}
use Rattle.px_preservation.proofs.Arguments.{AllLower}
use Rattle.px_preservation.proofs.Invoked.{acts_here, this_operand, LowersReceiver, method_call, length_call, equals_call, next_call, long_call, text_call, query_call, update_call}
use Rattle.px_preservation.proofs.Agree.{CallsMeet, IsLowered, Lowers, around}

-- the number of a place that is there
pub within : (slots : List Static) (n k : ℕ) (t : Static) → n ≡ length slots → slice_get slots k ≡ Some t → k < n
within slots n k t e h = let b = slice_get_within slots k t h in omega (arith, e, b)

-- the negative of a bare number
pub negative : (digits : List ℕ) (long : Bool) → apply op.Neg (literal digits long) (literal digits long) ≡ Ok (negated (literal digits long))
unfolding apply
negative digits true = refl
negative digits false = refl

module _ (Q W : Type 0) (ask : Ask Q W) (P : Checked) (code : Code) (source_calls : SourceCalls Q W) (calls : Calls Q W) (n : ℕ) (met : CallsMeet Q W ask P code source_calls calls n) (same : SameProgram P code) where
  abbrev means : Expr → Meant Q W
  means x = says Q W ask P code source_calls calls n met x

  abbrev Lowered : SourceHere Q W Value → Draft → Lasted → Type 0
  Lowered = IsLowered Q W ask P code source_calls calls n

  abbrev LowersExpr : Expr → Type 0
  LowersExpr = Lowers Q W ask P code source_calls calls n

  -- ---- values

  value_lowered : (v : Value) (id token : ℕ) (o : Draft) → Lowered (pure v) o (valued (stands v) id token o)
  value_lowered v id token o = record {
    trees = [];
    temps = [];
    trees_are = sym (append-nil o.trees);
    slots_are = sym (append-nil o.slots);
    method_is = refl;
    below = tt;
    above = tt;
    meets = λ s c ag l. (v, s, refl, (refl, after_none W (length o.slots) s c ag.shared, refl));
  }

  slot_lowered : (k : ℕ) → k < n → (id token : ℕ) (o : Draft) → n ≤ length o.slots → Lowered (slot_value k) o (valued (Held (Slot k)) id token o)
  slot_lowered k h id token o le = record {
    trees = [];
    temps = [];
    trees_are = sym (append-nil o.trees);
    slots_are = sym (append-nil o.slots);
    method_is = refl;
    below = omega (arith, h, le);
    above = tt;
    meets = λ s c ag l. (unwrap_or (slice_get s.locals k) Null, s, refl, (refl, after_none W (length o.slots) s c ag.shared, ap (λ (v : Option Value). unwrap_or v Null) (sym (ag.locals k h))));
  }

  -- ---- names and members

  variable_lowered : (slots : List Static) → n ≡ length slots → (name : Named) (t : Static) → IsVariable P.facts slots name t → (id token : ℕ) (o : Draft) → n ≤ length o.slots → Lowered (name_value name) o (valued (name_had P name id) id token o)
  variable_lowered slots size _ _ (typing.IsVariable.local slot t e) id token o le = slot_lowered slot (within slots n slot t size e) id token o le
  variable_lowered slots size _ _ (typing.IsVariable.field class place t e h) id token o le =
      made_one Q W ask P code source_calls calls n met this_value o (record { out = o; operand = Slot 0 }) (this_operand Q W ask P code source_calls calls n met same o (within slots n 0 (static.Object class) size e) le) (λ v. on_shared (get_field v place)) (step.Get (Slot 0) class place) (code_type (type_at P.facts id)) (Begun id) id token (omega (arith, within slots n 0 (static.Object class) size e, le))
      (λ s c. acts_here Q W ask P code source_calls calls n met same (cells.get_field (operand c.locals (Slot 0)) place) s (plain_get (fresh_of code) (operand c.locals (Slot 0)) place))

  member_lowered : (name : Named) (u t : Static) → IsMember P.facts name u t → (x : Expr) → LowersExpr x → (id token : ℕ) (o : Draft) → n ≤ length o.slots → Lowered ((means x).run >>= member_value name) o (let a = operand_at P (part_of P x) o in valued (member_had P name id a.operand x.id) id token a.out)
  member_lowered _ _ _ (typing.IsMember.field class place t h) x k id token o le =
      let a = operand_at P (part_of P x) o in
      let b : IsOperand Q W ask P code source_calls calls n (means x).run o a = operand_low Q W ask P code source_calls calls n met x k o le in
      made_one Q W ask P code source_calls calls n met (means x).run o a b (member_value (named.Field class place)) (step.Get a.operand class place) (code_type (type_at P.facts id)) (Completed x.id) id token b.below
      (λ s c. acts_here Q W ask P code source_calls calls n met same (cells.get_field (operand c.locals a.operand) place) s (plain_get (fresh_of code) (operand c.locals a.operand) place))
  member_lowered _ _ _ (typing.IsMember.array_length of) x k id token o le =
      let a = operand_at P (part_of P x) o in
      let b : IsOperand Q W ask P code source_calls calls n (means x).run o a = operand_low Q W ask P code source_calls calls n met x k o le in
      made_one Q W ask P code source_calls calls n met (means x).run o a b (member_value named.ArrayLength) (step.Len a.operand) (code_type (type_at P.facts id)) (Completed x.id) id token b.below
      (λ s c. acts_here Q W ask P code source_calls calls n met same (cells.array_length (operand c.locals a.operand)) s (plain_length (fresh_of code) (operand c.locals a.operand)))

  index_lowered : (x y : Expr) → LowersExpr x → LowersExpr y → (id token : ℕ) (o : Draft) → n ≤ length o.slots → Lowered ((means x).run >>= (λ a. (means y).run >>= (λ i. on_shared (load a i)))) o (index_low P (part_of P x) (part_of P y) id token o)
  index_lowered x y h k id token o le =
      let a = operand_at P (part_of P x) o in
      let p : IsOperand Q W ask P code source_calls calls n (means x).run o a = operand_low Q W ask P code source_calls calls n met x h o le in
      let b = operand_at P (part_of P y) a.out in
      let q : IsOperand Q W ask P code source_calls calls n (means y).run a.out b = operand_low Q W ask P code source_calls calls n met y k a.out (omega (arith, le, grown o.slots a.out.slots p.temps p.slots_are)) in
      made_two Q W ask P code source_calls calls n met (means x).run (means y).run o a b le p q (λ v i. on_shared (load v i)) (step.Load a.operand b.operand) (code_type (type_at P.facts id)) (Completed y.id) id token (λ u v. (u, v))
      (λ s c. acts_here Q W ask P code source_calls calls n met same (cells.load (operand c.locals a.operand) (operand c.locals b.operand)) s (plain_load (fresh_of code) (operand c.locals a.operand) (operand c.locals b.operand)))

  -- ---- `new`

  object_lowered : (class site id token : ℕ) (o : Draft) → n ≤ length o.slots → Lowered (made_object P.facts (named.NewObject class site)) o (valued (object_had P (named.NewObject class site) id) id token o)
  object_lowered class site id token o le =
      made_none Q W ask P code source_calls calls n met o (made_object P.facts (named.NewObject class site)) (step.New class site) (code_type (type_at P.facts id)) (Begun id) id token le tt
      (λ s c ag. ap (beside {Q = Q} s.locals) (object_same (fresh_of code) class site (map default_of (fields_of P.facts class)) s.shared (same.fresh class)))

  array_lowered : (site : ℕ) (t : Element) (x : Expr) → LowersExpr x → (id token : ℕ) (o : Draft) → n ≤ length o.slots → Lowered ((means x).run >>= made_array (named.NewArray site) (static.Array t)) o (let a = operand_at P (part_of P x) o in valued (array_had P (named.NewArray site) (static.Array t) id a.operand x.id) id token a.out)
  array_lowered site t x k id token o le =
      let a = operand_at P (part_of P x) o in
      let b : IsOperand Q W ask P code source_calls calls n (means x).run o a = operand_low Q W ask P code source_calls calls n met x k o le in
      made_one Q W ask P code source_calls calls n met (means x).run o a b (made_array (named.NewArray site) (static.Array t)) (step.Array (element_number t) a.operand site) (code_type (type_at P.facts id)) (Completed x.id) id token b.below
      (λ s c. acts_here Q W ask P code source_calls calls n met same (cells.make_array (element_number t) site (operand c.locals a.operand)) s (plain_array (fresh_of code) (element_number t) site (operand c.locals a.operand)))

  -- ---- prefixes

  -- a bare number
  abbrev IsNumber : Option Value → SourceHere Q W Value → Type 0
  IsNumber None r = Unit {0}
  IsNumber (Some v) r = ((s : SourceFrame W) → r s ≡ Gives v s) × (apply op.Neg v v ≡ Ok (negated v))

  abbrev M : Type 0
  M = Meant Q W

  abbrev at : ExprForm-F ExprForm Expr → ExprForm-F (ℕ → M) M
  at x = map-ExprForm ExprForm Expr (ℕ → M) M (fold-ExprForm (ℕ → M) M (expr_step (around Q W ask P code source_calls calls n)) numbered) means x

  number_form : (x : ExprForm-F ExprForm Expr) (id : ℕ) → IsNumber (number_in x) (expr_step (around Q W ask P code source_calls calls n) (at x) id).run
  number_form (f.Number digits long) id = (λ s. refl, negative digits long)
  number_form (f.Str bytes) id = tt
  number_form f.True id = tt
  number_form f.False id = tt
  number_form f.Null id = tt
  number_form f.This id = tt
  number_form (f.Name n) id = tt
  number_form (f.Group e) id = tt
  number_form (f.Field e n) id = tt
  number_form (f.Index e j) id = tt
  number_form (f.Call of n args) id = tt
  number_form (f.NewObject n) id = tt
  number_form (f.NewArray b e) id = tt
  number_form (f.Prefix s e) id = tt
  number_form (f.Binary s at l r) id = tt

  means_out : (x : Expr) → means x ≡ expr_step (around Q W ask P code source_calls calls n) (at (out-ExprForm x.form)) x.id
  unfolding meant
  means_out x =
      fold_out-Expr (ℕ → M) M (expr_step (around Q W ask P code source_calls calls n)) numbered x ∙ ap (λ (k : ℕ → M). k x.id) (fold_out-ExprForm (ℕ → M) M (expr_step (around Q W ask P code source_calls calls n)) numbered x.form)

  number_means : (x : Expr) → IsNumber (number_of x) (means x).run
  number_means x = subst (λ (m : M). IsNumber (number_of x) m.run) (sym (means_out x)) (number_form (out-ExprForm x.form) x.id)

  abbrev after : Option Op → SourceHere Q W Value → SourceHere Q W Value
  after p r = r >>= (λ v. came_to (prefixed p v))

  -- no number with a minus before it
  plain_prefix : (p : Option Op) (x : Expr) → LowersExpr x → (id token : ℕ) (o : Draft) → n ≤ length o.slots → Lowered (after p (means x).run) o (prefix_low P None p (part_of P x) id token o)
  plain_prefix None x h id token o le = subst (λ (q : SourceHere Q W Value). Lowered q o ((low P x).part.lower o)) (λ i s. sym (then_pure ((means x).run s)) i) (h o le)
  plain_prefix (Some p) x h id token o le =
      let a = operand_at P (part_of P x) o in
      let b : IsOperand Q W ask P code source_calls calls n (means x).run o a = operand_low Q W ask P code source_calls calls n met x h o le in
      made_one Q W ask P code source_calls calls n met (means x).run o a b (λ v. came_to (prefixed (Some p) v)) (step.Op p a.operand None) (code_type (type_at P.facts id)) (Completed x.id) id token (b.below, tt) (λ s c. came_same (first_cells (fresh_of code)) (apply p (operand c.locals a.operand) (operand c.locals a.operand)) s)

  minus_lowered : (number : Option Value) (x : Expr) → IsNumber number (means x).run → LowersExpr x → (id token : ℕ) (o : Draft) → n ≤ length o.slots → Lowered (after (Some op.Neg) (means x).run) o (prefix_low P (literal_behind sign.Minus number) (Some op.Neg) (part_of P x) id token o)
  minus_lowered None x k h id token o le = plain_prefix (Some op.Neg) x h id token o le
  minus_lowered (Some v) x k h id token o le = subst (λ (q : SourceHere Q W Value). Lowered q o (valued (stands (negated v)) id token o)) (λ i s. sym (negates s) i) (value_lowered (negated v) id token o)
    where
      negates : (s : SourceFrame W) → after (Some op.Neg) (means x).run s ≡ Gives (negated v) s
      negates s = ap (λ (z : Outcome Q (SourceFrame W) Value). then_run z (λ u. came_to (prefixed (Some op.Neg) u))) (k.0 s) ∙ ap (λ z. came_to {Q = Q} z s) k.1

  prefix_by : (s : Sign) (t : Static) (x : Expr) → LowersExpr x → (id token : ℕ) (o : Draft) → n ≤ length o.slots → Lowered (after (prefix_of s t) (means x).run) o (prefix_low P (literal_behind s (number_of x)) (prefix_of s t) (part_of P x) id token o)
  prefix_by sign.Minus t x h id token o le = minus_lowered (number_of x) x (number_means x) h id token o le
  prefix_by sign.Plus t x h id token o le = plain_prefix (prefix_of sign.Plus t) x h id token o le
  prefix_by sign.Times t x h id token o le = plain_prefix (prefix_of sign.Times t) x h id token o le
  prefix_by sign.Over t x h id token o le = plain_prefix (prefix_of sign.Over t) x h id token o le
  prefix_by sign.Rest t x h id token o le = plain_prefix (prefix_of sign.Rest t) x h id token o le
  prefix_by sign.And t x h id token o le = plain_prefix (prefix_of sign.And t) x h id token o le
  prefix_by sign.Or t x h id token o le = plain_prefix (prefix_of sign.Or t) x h id token o le
  prefix_by sign.Xor t x h id token o le = plain_prefix (prefix_of sign.Xor t) x h id token o le
  prefix_by sign.Shl t x h id token o le = plain_prefix (prefix_of sign.Shl t) x h id token o le
  prefix_by sign.Shr t x h id token o le = plain_prefix (prefix_of sign.Shr t) x h id token o le
  prefix_by sign.Ushr t x h id token o le = plain_prefix (prefix_of sign.Ushr t) x h id token o le
  prefix_by sign.Less t x h id token o le = plain_prefix (prefix_of sign.Less t) x h id token o le
  prefix_by sign.AtMost t x h id token o le = plain_prefix (prefix_of sign.AtMost t) x h id token o le
  prefix_by sign.More t x h id token o le = plain_prefix (prefix_of sign.More t) x h id token o le
  prefix_by sign.AtLeast t x h id token o le = plain_prefix (prefix_of sign.AtLeast t) x h id token o le
  prefix_by sign.Equal t x h id token o le = plain_prefix (prefix_of sign.Equal t) x h id token o le
  prefix_by sign.Unequal t x h id token o le = plain_prefix (prefix_of sign.Unequal t) x h id token o le
  prefix_by sign.Not t x h id token o le = plain_prefix (prefix_of sign.Not t) x h id token o le
  prefix_by sign.Inv t x h id token o le = plain_prefix (prefix_of sign.Inv t) x h id token o le
  prefix_by sign.ToInt t x h id token o le = plain_prefix (prefix_of sign.ToInt t) x h id token o le
  prefix_by sign.ToLong t x h id token o le = plain_prefix (prefix_of sign.ToLong t) x h id token o le
  prefix_by sign.Both t x h id token o le = plain_prefix (prefix_of sign.Both t) x h id token o le
  prefix_by sign.Either t x h id token o le = plain_prefix (prefix_of sign.Either t) x h id token o le

  prefix_lowered : (s : Sign) (x : Expr) → LowersExpr x → (id token : ℕ) (o : Draft) → n ≤ length o.slots → Lowered (after (prefix_of s (means x).ty) (means x).run) o (prefix_low P (literal_behind s (number_of x)) (prefix_of s (type_at P.facts x.id)) (part_of P x) id token o)
  prefix_lowered s x h id token o le =
      subst (λ t. Lowered (after (prefix_of s t) (means x).run) o (prefix_low P (literal_behind s (number_of x)) (prefix_of s (type_at P.facts x.id)) (part_of P x) id token o)) (sym (meant_type Q W (around Q W ask P code source_calls calls n) x))
      (prefix_by s (type_at P.facts x.id) x h id token o le)

  -- ---- binary operators

  two_binary : (p : Op) (l r : Expr) (id token : ℕ) (o : Draft) → n ≤ length o.slots → LowersExpr l → LowersExpr r → Lowered ((means l).run >>= (λ a. (means r).run >>= (λ b. came_to (apply p a b)))) o (two_low P p (part_of P l) (part_of P r) id token o)
  two_binary p x y id token o le h k =
      let a = operand_at P (part_of P x) o in
      let u : IsOperand Q W ask P code source_calls calls n (means x).run o a = operand_low Q W ask P code source_calls calls n met x h o le in
      let b = operand_at P (part_of P y) a.out in
      let v : IsOperand Q W ask P code source_calls calls n (means y).run a.out b = operand_low Q W ask P code source_calls calls n met y k a.out (omega (arith, le, grown o.slots a.out.slots u.temps u.slots_are)) in
      made_two Q W ask P code source_calls calls n met (means x).run (means y).run o a b le u v (λ a b. came_to (apply p a b)) (step.Op p a.operand (Some b.operand)) (code_type (type_at P.facts id)) (Completed y.id) id token (λ u v. (u, v))
      (λ s c. came_same (first_cells (fresh_of code)) (apply p (operand c.locals a.operand) (operand c.locals b.operand)) s)

  binary_by : (s : Sign) (l r : Expr) (id token : ℕ) (o : Draft) → n ≤ length o.slots → LowersExpr l → LowersExpr r → Lowered (binary s (type_at P.facts l.id) (type_at P.facts r.id) (means l).run (means r).run) o (binary_low P s (part_of P l) (part_of P r) id token o)
  binary_by sign.Both l r id token o le hl hr = chooses Q W ask P code source_calls calls n met true (means l).run (means r).run o (part_of P l) (part_of P r) id token le (hl o le) hr
  binary_by sign.Either l r id token o le hl hr = chooses Q W ask P code source_calls calls n met false (means l).run (means r).run o (part_of P l) (part_of P r) id token le (hl o le) hr
  binary_by sign.Plus l r id token o le hl hr = two_binary (op_of sign.Plus (type_at P.facts l.id) (type_at P.facts r.id)) l r id token o le hl hr
  binary_by sign.Minus l r id token o le hl hr = two_binary (op_of sign.Minus (type_at P.facts l.id) (type_at P.facts r.id)) l r id token o le hl hr
  binary_by sign.Times l r id token o le hl hr = two_binary (op_of sign.Times (type_at P.facts l.id) (type_at P.facts r.id)) l r id token o le hl hr
  binary_by sign.Over l r id token o le hl hr = two_binary (op_of sign.Over (type_at P.facts l.id) (type_at P.facts r.id)) l r id token o le hl hr
  binary_by sign.Rest l r id token o le hl hr = two_binary (op_of sign.Rest (type_at P.facts l.id) (type_at P.facts r.id)) l r id token o le hl hr
  binary_by sign.And l r id token o le hl hr = two_binary (op_of sign.And (type_at P.facts l.id) (type_at P.facts r.id)) l r id token o le hl hr
  binary_by sign.Or l r id token o le hl hr = two_binary (op_of sign.Or (type_at P.facts l.id) (type_at P.facts r.id)) l r id token o le hl hr
  binary_by sign.Xor l r id token o le hl hr = two_binary (op_of sign.Xor (type_at P.facts l.id) (type_at P.facts r.id)) l r id token o le hl hr
  binary_by sign.Shl l r id token o le hl hr = two_binary (op_of sign.Shl (type_at P.facts l.id) (type_at P.facts r.id)) l r id token o le hl hr
  binary_by sign.Shr l r id token o le hl hr = two_binary (op_of sign.Shr (type_at P.facts l.id) (type_at P.facts r.id)) l r id token o le hl hr
  binary_by sign.Ushr l r id token o le hl hr = two_binary (op_of sign.Ushr (type_at P.facts l.id) (type_at P.facts r.id)) l r id token o le hl hr
  binary_by sign.Less l r id token o le hl hr = two_binary (op_of sign.Less (type_at P.facts l.id) (type_at P.facts r.id)) l r id token o le hl hr
  binary_by sign.AtMost l r id token o le hl hr = two_binary (op_of sign.AtMost (type_at P.facts l.id) (type_at P.facts r.id)) l r id token o le hl hr
  binary_by sign.More l r id token o le hl hr = two_binary (op_of sign.More (type_at P.facts l.id) (type_at P.facts r.id)) l r id token o le hl hr
  binary_by sign.AtLeast l r id token o le hl hr = two_binary (op_of sign.AtLeast (type_at P.facts l.id) (type_at P.facts r.id)) l r id token o le hl hr
  binary_by sign.Equal l r id token o le hl hr = two_binary (op_of sign.Equal (type_at P.facts l.id) (type_at P.facts r.id)) l r id token o le hl hr
  binary_by sign.Unequal l r id token o le hl hr = two_binary (op_of sign.Unequal (type_at P.facts l.id) (type_at P.facts r.id)) l r id token o le hl hr
  binary_by sign.Not l r id token o le hl hr = two_binary (op_of sign.Not (type_at P.facts l.id) (type_at P.facts r.id)) l r id token o le hl hr
  binary_by sign.Inv l r id token o le hl hr = two_binary (op_of sign.Inv (type_at P.facts l.id) (type_at P.facts r.id)) l r id token o le hl hr
  binary_by sign.ToInt l r id token o le hl hr = two_binary (op_of sign.ToInt (type_at P.facts l.id) (type_at P.facts r.id)) l r id token o le hl hr
  binary_by sign.ToLong l r id token o le hl hr = two_binary (op_of sign.ToLong (type_at P.facts l.id) (type_at P.facts r.id)) l r id token o le hl hr

  binary_lowered : (s : Sign) (l r : Expr) → LowersExpr l → LowersExpr r → (id token : ℕ) (o : Draft) → n ≤ length o.slots → Lowered (binary s (means l).ty (means r).ty (means l).run (means r).run) o (binary_low P s (part_of P l) (part_of P r) id token o)
  binary_lowered s l r hl hr id token o le =
      subst (λ (t : Static). Lowered (binary s t (means r).ty (means l).run (means r).run) o (binary_low P s (part_of P l) (part_of P r) id token o)) (sym (meant_type Q W (around Q W ask P code source_calls calls n) l))
      (subst (λ (t : Static). Lowered (binary s (type_at P.facts l.id) t (means l).run (means r).run) o (binary_low P s (part_of P l) (part_of P r) id token o)) (sym (meant_type Q W (around Q W ask P code source_calls calls n) r))
      (binary_by s l r id token o le hl hr))

  -- ---- calls

  abbrev Calling : Named → Option Expr → List Expr → Type 0
  Calling name of args = (id token : ℕ) (o : Draft) → n ≤ length o.slots → Lowered (called (around Q W ask P code source_calls calls n) name (option_map means of) (map means args)) o (call_low P name (option_map (part_of P) of) (map (part_of P) args) id token o)

  library_lowered : (name : Named) (u t : Static) (ts : List Static) → IsLibrary name u ts t → (of : Expr) (args : List Expr) → LowersExpr of → AllLower Q W ask P code source_calls calls n met args → Calling name (Some of) args
  library_lowered _ _ _ _ typing.IsLibrary.text_length of args h k = length_call Q W ask P code source_calls calls n met same (Some of) args h k
  library_lowered _ _ _ _ typing.IsLibrary.text_equals of args h k = equals_call Q W ask P code source_calls calls n met same (Some of) args h k
  library_lowered _ _ _ _ typing.IsLibrary.next of args h k = next_call Q W ask P code source_calls calls n met same (Some of) args h k
  library_lowered _ _ _ _ typing.IsLibrary.get_long of args h k = long_call Q W ask P code source_calls calls n met same (Some of) args h k
  library_lowered _ _ _ _ typing.IsLibrary.get_string of args h k = text_call Q W ask P code source_calls calls n met same (Some of) args h k

  -- ---- all expressions

  by_form : (x : Expr) (m : M) (l : Low) → means x ≡ m → low P x ≡ l → ((o : Draft) → n ≤ length o.slots → Lowered m.run o (l.part.lower o)) → LowersExpr x
  by_form x m l e h k o le = subst (λ (y : Low). Lowered (means x).run o (y.part.lower o)) (sym h) (subst (λ (y : M). Lowered y.run o (l.part.lower o)) (sym e) (k o le))

  abbrev A : Around Q W
  A = around Q W ask P code source_calls calls n

  call_by : (x : Expr) (of : Option Expr) (n' : Name) (args : List Expr) (name : Named) → x.form ≡ e.Call of n' args → named_at P.facts x.id ≡ name → Calling name of args → LowersExpr x
  call_by x of n' args name h e k = by_form x _ _ (meant_call Q W A x of n' args h) (low_call P x of n' args h) (λ o le. subst (λ (m : Named). Lowered (called A m (option_map means of) (map means args)) o (call_low P m (option_map (part_of P) of) (map (part_of P) args) x.id x.token o)) (sym e) (k x.id x.token o le))

  module _ (slots : List Static) (size : n ≡ length slots) where
    mutual
      pub lowers_expr : (x : Expr) → IsTypedExpr P.facts slots x → LowersExpr x
      lowers_expr _ (typing.IsTypedExpr.number x digits long h e) = by_form x _ _ (meant_number Q W A x digits long h) (low_number P x digits long h) (λ o le. value_lowered (literal digits long) x.id x.token o)
      lowers_expr _ (typing.IsTypedExpr.text x bytes h e) = by_form x _ _ (meant_text Q W A x bytes h) (low_text P x bytes h) (λ o le. value_lowered (Text bytes) x.id x.token o)
      lowers_expr _ (typing.IsTypedExpr.truth x h e) = by_form x _ _ (meant_true Q W A x h) (low_true P x h) (λ o le. value_lowered (Truth true) x.id x.token o)
      lowers_expr _ (typing.IsTypedExpr.falsehood x h e) = by_form x _ _ (meant_false Q W A x h) (low_false P x h) (λ o le. value_lowered (Truth false) x.id x.token o)
      lowers_expr _ (typing.IsTypedExpr.null x h e) = by_form x _ _ (meant_null Q W A x h) (low_null P x h) (λ o le. value_lowered Null x.id x.token o)
      lowers_expr _ (typing.IsTypedExpr.this x h e) = by_form x _ _ (meant_this Q W A x h) (low_this P x h) (λ o le. slot_lowered 0 (within slots n 0 (type_at P.facts x.id) size e) x.id x.token o le)
      lowers_expr _ (typing.IsTypedExpr.variable x name h v) = by_form x _ _ (meant_name Q W A x name h) (low_name P x name h) (λ o le. variable_lowered slots size (named_at P.facts x.id) (type_at P.facts x.id) v x.id x.token o le)
      lowers_expr _ (typing.IsTypedExpr.group x inner h e t) = by_form x _ _ (meant_group Q W A x inner inner h refl) (low_group P x inner inner h refl) (lowers_expr inner t)
      lowers_expr _ (typing.IsTypedExpr.field x of name h m t) = by_form x _ _ (meant_field Q W A x of of name h refl) (low_field P x of of name h refl) (λ o le. member_lowered (named_at P.facts x.id) (type_at P.facts of.id) (type_at P.facts x.id) m of (lowers_expr of t) x.id x.token o le)
      lowers_expr _ (typing.IsTypedExpr.indexed x of index t h e g p q) = by_form x _ _ (meant_index Q W A x of of index index h refl refl) (low_index P x of of index index h refl refl) (λ o le. index_lowered of index (lowers_expr of p) (lowers_expr index q) x.id x.token o le)
      lowers_expr _ (typing.IsTypedExpr.call x of name args method fact h e g k r a) = call_by x of name args (named.Method method) h e (method_call Q W ask P code source_calls calls n met same method of args (lowers_receiver (static.Object fact.class) of r) (lowers_all fact.params args a))
      lowers_expr _ (typing.IsTypedExpr.library x of name args params h l p a) = call_by x (Some of) name args (named_at P.facts x.id) h refl (library_lowered (named_at P.facts x.id) (type_at P.facts of.id) (type_at P.facts x.id) params l of args (lowers_expr of p) (lowers_all params args a))
      lowers_expr _ (typing.IsTypedExpr.query x of name written args number site operation h e g k s a) = call_by x of name (written ∷ args) (named.Query number site) h e (query_call Q W ask P code source_calls calls n met same number site of written args (lowers_all operation.params args a))
      lowers_expr _ (typing.IsTypedExpr.update x of name written args number operation h e g w k s a) = call_by x of name (written ∷ args) (named.Update number) h e (update_call Q W ask P code source_calls calls n met same number of written args (lowers_all operation.params args a))
      lowers_expr _ (typing.IsTypedExpr.new_object x name class site h e t) = by_form x _ _ (meant_new_object Q W A x name h) (low_new_object P x name h) (λ o le. subst (λ (m : Named). Lowered (made_object P.facts m) o (valued (object_had P m x.id) x.id x.token o)) (sym e) (object_lowered class site x.id x.token o le))
      lowers_expr _ (typing.IsTypedExpr.new_array x y b site t h e g p) = by_form x _ _ (meant_new_array Q W A x y y b h refl) (low_new_array P x y y b h refl) (λ o le.
          subst (λ (m : Named). Lowered ((means y).run >>= made_array m (type_at P.facts x.id)) o (let a = operand_at P (part_of P y) o in valued (array_had P m (type_at P.facts x.id) x.id a.operand y.id) x.id x.token a.out)) (sym e)
          (subst (λ (u : Static). Lowered ((means y).run >>= made_array (named.NewArray site) u) o (let a = operand_at P (part_of P y) o in valued (array_had P (named.NewArray site) u x.id a.operand y.id) x.id x.token a.out)) (sym g)
          (array_lowered site t y (lowers_expr y p) x.id x.token o le)))
      lowers_expr _ (typing.IsTypedExpr.prefix x y s h g p) = by_form x _ _ (meant_prefix Q W A x y y s h refl) (low_prefix P x y y s h refl) (λ o le. prefix_lowered s y (lowers_expr y p) x.id x.token o le)
      lowers_expr _ (typing.IsTypedExpr.binary x l r s at h g p q) = by_form x _ _ (meant_binary Q W A x l r l r s at h refl refl) (low_binary P x l r l r s at h refl refl) (λ o le. binary_lowered s l r (lowers_expr l p) (lowers_expr r q) x.id x.token o le)

      lowers_receiver : (t : Static) (of : Option Expr) → IsReceiver P.facts slots t of → LowersReceiver Q W ask P code source_calls calls n met same of
      lowers_receiver _ _ (typing.IsReceiver.own t e) = within slots n 0 t size e
      lowers_receiver _ _ (typing.IsReceiver.of t x e p) = lowers_expr x p

      lowers_all : (ts : List Static) (xs : List Expr) → AreArguments P.facts slots ts xs → AllLower Q W ask P code source_calls calls n met xs
      lowers_all _ _ typing.AreArguments.none = tt
      lowers_all _ _ (typing.AreArguments.more t ts x xs f p a) = (lowers_expr x p, lowers_all ts xs a)
