-- Calls of methods, of the library and of `Db`: the receiver and the arguments as operands in a row, and then the call.
use Rattle.std.proofs.Common.{◌≡◌, ℕ, ◌<◌, ◌≤◌, true, false, List, [], ◌∷◌, map, append-nil, length, Option, Some, None, option_map, unwrap_or, slice_get, Result, refl, sym, ap, ◌∙◌, arith}
use Rattle.px_value.specs.declared.value.Value.{Value}
use Rattle.px_value.specs.declared.value.Value.TheVariants.{Int, Long, Bool as Truth, Text, Ref, Null}
use Rattle.px_value.specs.declared.thrown.Thrown.{Thrown}
use Rattle.px_value.specs.declared.op.Op.TheVariants as op
use Rattle.px_value.specs.declared.statement.Statement.{Statement}
use Rattle.px_value.specs.declared.answer.Answer.{Answer}
use Rattle.px_value.specs.Operators.{apply}
use Rattle.px_value.specs.Outcome.{Outcome, Gives, Throws, Asks, then_run, ◌>>=◌, pure, beside, on_shared}
use Rattle.px_tree.specs.declared.Expr.{Expr}
use Rattle.px_facts.specs.declared.types.Ty.{Ty as Static}
use Rattle.px_facts.specs.declared.checked.Checked.{Checked}
use Rattle.px_facts.specs.declared.checked.Named.{Named}
use Rattle.px_facts.specs.declared.checked.Named.TheVariants as named
use Rattle.px_effects.specs.Run.{Shared, Ask, turn}
use Rattle.px_effects.specs.Act.{Act, Comes, does}
use Rattle.px_effects.specs.Cells.{first_cells}
use Rattle.px_effects.specs.Rows as rows
use Rattle.px_effects.specs.Rows.{Statements, make_rows, changed}
use Rattle.px_effects.specs.Operations.{operation, works}
use Rattle.px_mean.specs.Run.{Frame as SourceFrame, Here as SourceHere, gather}
use Rattle.px_mean.specs.Facts.{type_at, by_number, params_of}
use Rattle.px_mean.specs.Effects.{no_object, statement_in, statements_of, acts}
use Rattle.px_mean.specs.Operations.{query, update}
use Rattle.px_mean.specs.Expressions.{Calls as SourceCalls, Meant, this_value, fitted, receiver, result_value, call_method, invoke, called}
use Rattle.px_normal.specs.declared.ty.Ty.{Ty}
use Rattle.px_normal.specs.declared.word.Operand.{Operand}
use Rattle.px_normal.specs.declared.word.Operand.TheVariants.{Slot}
use Rattle.px_normal.specs.declared.node.Counter.{Counter}
use Rattle.px_normal.specs.declared.code.Code.{Code}
use Rattle.px_normal.specs.First.{Slots, fresh_of}
use Rattle.px_normal.specs.First as first
use Rattle.px_normal.specs.Words.{operand, operands, invokes_on}
use Rattle.px_normal.specs.CodeRun.{Calls}
use Rattle.px_lowering.specs.declared.draft.Draft.{Draft}
use Rattle.px_lowering.specs.declared.valued.Step.{Step}
use Rattle.px_lowering.specs.declared.valued.Step.TheVariants as step
use Rattle.px_lowering.specs.declared.valued.Had.TheVariants.{Made}
use Rattle.px_lowering.specs.Types.{code_type}
use Rattle.px_lowering.specs.Emit.{Lasted, Operated}
use Rattle.px_lowering.specs.Expressions.{part_of, received, arguments, first_of, call_low}
use Rattle.px_preservation.proofs.Program.{SameProgram, same_statements}
use Rattle.px_preservation.proofs.Runs.{then_assoc}
use Rattle.px_preservation.proofs.Afters.{grown, after_none}
use Rattle.px_preservation.proofs.Acts.{Plain, does_same, plain_next, plain_column, query_same, update_same}
use Rattle.px_preservation.proofs.Words.{step_source, does_source}
use Rattle.px_preservation.proofs.Operands.{IsOperand}
use Rattle.px_preservation.proofs.Fitted.{came_same}
use Rattle.px_preservation.proofs.Parts.{says, operand_low}
use Rattle.px_preservation.proofs.Arguments.{IsRow, row_none, row_more, AllLower, arguments_row, made_rows}
use Rattle.px_preservation.proofs.Agree.{IsBelow, AreBelow, IsStepBelow, CallsMeet, IsLowered, Lowers, around}

-- a value there, or null
first_operand : (slots : Slots) (xs : List Operand) → operand slots (first_of xs) ≡ unwrap_or (slice_get (operands slots xs) 0) Null
first_operand slots [] = refl
first_operand slots (a ∷ xs) = refl

first_below : (high : ℕ) (xs : List Operand) → AreBelow high xs → IsBelow high (first_of xs)
first_below high [] h = tt
first_below high (a ∷ xs) h = h.0

module _ (Q W : Type 0) (ask : Ask Q W) (P : Checked) (code : Code) (source_calls : SourceCalls Q W) (calls : Calls Q W) (n : ℕ) (met : CallsMeet Q W ask P code source_calls calls n) (same : SameProgram P code) where
  abbrev says_step : Step → Slots → SourceFrame W → Outcome Q (SourceFrame W) Value
  says_step x slots s = on_shared (step_source Q W ask P code source_calls calls n met x slots) s

  abbrev means : Expr → Meant Q W
  means x = says Q W ask P code source_calls calls n met x

  abbrev Lowered : SourceHere Q W Value → Draft → Lasted → Type 0
  Lowered = IsLowered Q W ask P code source_calls calls n

  abbrev Row : List (SourceHere Q W Value) → Draft → Draft → List Operand → Type 0
  Row = IsRow Q W ask P code source_calls calls n met

  abbrev LowersExpr : Expr → Type 0
  LowersExpr = Lowers Q W ask P code source_calls calls n

  abbrev All : List Expr → Type 0
  All = AllLower Q W ask P code source_calls calls n met

  -- ---- acts

  pub acts_here : (a : Act) (s : SourceFrame W) → Plain (fresh_of code) a → on_shared {Q = Q} (acts a) s ≡ on_shared (does (first_cells (fresh_of code)) a) s
  acts_here a s h = ap (beside {Q = Q} s.locals) (does_same (first_cells no_object) (first_cells (fresh_of code)) a s.shared h)

  -- ---- receivers

  pub this_operand : (o : Draft) → 0 < n → n ≤ length o.slots → IsOperand Q W ask P code source_calls calls n this_value o (record { out = o; operand = Slot 0 })
  this_operand o h le = record {
    trees = [];
    temps = [];
    trees_are = sym (append-nil o.trees);
    slots_are = sym (append-nil o.slots);
    method_is = refl;
    below = omega (arith, h, le);
    meets = λ s c ag l. (unwrap_or (slice_get s.locals 0) Null, s, refl, (refl, after_none W (length o.slots) s c ag.shared, ap (λ (v : Option Value). unwrap_or v Null) (sym (ag.locals 0 h))));
  }

  -- where none is written it is `this`
  abbrev pub LowersReceiver : Option Expr → Type 0
  LowersReceiver None = 0 < n
  LowersReceiver (Some x) = LowersExpr x

  receiver_operand : (of : Option Expr) (id : ℕ) (o : Draft) → LowersReceiver of → n ≤ length o.slots → IsOperand Q W ask P code source_calls calls n (receiver (option_map means of)) o (record { out = (received P false (option_map (part_of P) of) id o).out; operand = (received P false (option_map (part_of P) of) id o).value.operand })
  receiver_operand None id o h le = this_operand o h le
  receiver_operand (Some x) id o h le = operand_low Q W ask P code source_calls calls n met x h o le

  -- ---- the receiver, the arguments and the call

  own_call : (of : Option Expr) (args : List Expr) (types : List Static) (o : Draft) (id token : ℕ) → LowersReceiver of → All args → n ≤ length o.slots → (f : List Value → SourceHere Q W Value) (x : Operand → List Operand → Step) (t : Ty) → ((high : ℕ) (a : Operand) (xs : List Operand) → IsBelow high a → AreBelow high xs → IsStepBelow high (x a xs)) → ((a : Operand) (xs : List Operand) (s : SourceFrame W) (slots : Slots) → f (operand slots a ∷ operands slots xs) s ≡ says_step (x a xs) slots s) →
      Lowered (gather [] (receiver (option_map means of) ∷ []) >>= (λ there. gather there (fitted types 0 (map means args)) >>= f)) o
      (let a = received P false (option_map (part_of P) of) id o in
      let r = arguments P types 0 a.value.counter (map (part_of P) args) a.out in
      record { out = r.out; value = record { id = id; token = token; had = Made (x a.value.operand r.value.operands) t r.value.counter } })
  own_call of args types o id token h k le f x t below e =
      let a = received P false (option_map (part_of P) of) id o in
      let r = arguments P types 0 a.value.counter (map (part_of P) args) a.out in
      let A : Operated = record { out = a.out; operand = a.value.operand } in
      let b : IsOperand Q W ask P code source_calls calls n (receiver (option_map means of)) o A = receiver_operand of id o h le in
      let row1 : Row (receiver (option_map means of) ∷ []) o a.out (a.value.operand ∷ []) = row_more Q W ask P code source_calls calls n met (receiver (option_map means of)) [] o a.out A [] le b (row_none Q W ask P code source_calls calls n met a.out) in
      let row2 : Row (fitted types 0 (map means args)) a.out r.out r.value.operands = arguments_row Q W ask P code source_calls calls n met types 0 a.value.counter args a.out (omega (arith, le, grown o.slots a.out.slots b.temps b.slots_are)) k in
      made_rows Q W ask P code source_calls calls n met (receiver (option_map means of) ∷ []) (fitted types 0 (map means args)) o a.out r.out (a.value.operand ∷ []) r.value.operands le row1 row2 f (x a.value.operand r.value.operands) t r.value.counter id token (λ u v. below (length r.out.slots) a.value.operand r.value.operands u.0 v) (λ s c. e a.value.operand r.value.operands s c.locals)

  db_call : (args : List Expr) (types : List Static) (before : Counter) (o : Draft) (id token : ℕ) → All args → n ≤ length o.slots → (f : List Value → SourceHere Q W Value) (x : List Operand → Step) (t : Ty) → ((high : ℕ) (xs : List Operand) → AreBelow high xs → IsStepBelow high (x xs)) → ((xs : List Operand) (s : SourceFrame W) (slots : Slots) → f (operands slots xs) s ≡ says_step (x xs) slots s) →
      Lowered (gather [] [] >>= (λ there. gather there (fitted types 0 (map means args)) >>= f)) o
      (let r = arguments P types 0 before (map (part_of P) args) o in
      record { out = r.out; value = record { id = id; token = token; had = Made (x r.value.operands) t r.value.counter } })
  db_call args types before o id token k le f x t below e =
      let r = arguments P types 0 before (map (part_of P) args) o in
      let row : Row (fitted types 0 (map means args)) o r.out r.value.operands = arguments_row Q W ask P code source_calls calls n met types 0 before args o le k in
      made_rows Q W ask P code source_calls calls n met [] (fitted types 0 (map means args)) o o r.out [] r.value.operands le (row_none Q W ask P code source_calls calls n met o) row f (x r.value.operands) t r.value.counter id token (λ u v. below (length r.out.slots) r.value.operands v) (λ s c. e r.value.operands s c.locals)

  -- ---- what each of them does

  result_beside : (here : List Value) (o : Outcome Q (Shared W) (Option Value)) → then_run (beside here o) result_value ≡ beside here (then_run o (λ r. pure (unwrap_or r Null)))
  result_beside here (Gives v s) = refl
  result_beside here (Throws t s) = refl
  result_beside here (Asks q s) = refl

  method_same : (method : ℕ) (v : Value) (vs : List Value) (f : Answer → Act) (s : SourceFrame W) → (on_shared (call_method source_calls method (v ∷ vs)) >>= result_value) s ≡ on_shared (does_source Q W ask P code source_calls calls n (invokes_on v method vs) f) s
  method_same method (Ref object) vs f s = result_beside s.locals (then_run (turn s.shared) (λ _. source_calls method (Ref object ∷ vs))) ∙ ap (beside {Q = Q} s.locals) (then_assoc (turn s.shared) (λ _. source_calls method (Ref object ∷ vs)) (λ r. pure (unwrap_or r Null)))
  method_same method (Int i) vs f s = refl
  method_same method (Long i) vs f s = refl
  method_same method (Truth b) vs f s = refl
  method_same method (Text bytes) vs f s = refl
  method_same method Null vs f s = refl

  next_same : (of : Value) (s : SourceFrame W) → on_shared {Q = Q} (acts (rows.next (statements_of P.facts) of)) s ≡ on_shared (does (first_cells (fresh_of code)) (rows.next (first.statements_of code) of)) s
  next_same of s =
      acts_here (rows.next (statements_of P.facts) of) s (plain_next (fresh_of code) (statements_of P.facts) of)
      ∙ ap (λ (z : Statements). on_shared {Q = Q} (does (first_cells (fresh_of code)) (rows.next z of)) s) (sym (same_statements P code same))

  column_same : (wanted : Value → Result Value Thrown) (of index : Value) (s : SourceFrame W) → on_shared {Q = Q} (acts (rows.get_column (statements_of P.facts) wanted of index)) s ≡ on_shared (does (first_cells (fresh_of code)) (rows.get_column (first.statements_of code) wanted of index)) s
  column_same wanted of index s =
      acts_here (rows.get_column (statements_of P.facts) wanted of index) s (plain_column (fresh_of code) (statements_of P.facts) wanted of index)
      ∙ ap (λ (z : Statements). on_shared {Q = Q} (does (first_cells (fresh_of code)) (rows.get_column z wanted of index)) s) (sym (same_statements P code same))

  query_here : (number site : ℕ) (values : List Value) (s : SourceFrame W) → on_shared (query ask number site (by_number P.facts.operations number) values) s ≡ on_shared (works (first_cells (fresh_of code)) ask (operation number (first.statements_of code number) values) (make_rows number site)) s
  query_here number site values s =
      ap (beside {Q = Q} s.locals) (query_same (fresh_of code) Q W ask number site (statement_in (by_number P.facts.operations number)) values s.shared
      ∙ ap (λ (z : Option Statement). works (first_cells (fresh_of code)) ask (operation number z values) (make_rows number site) s.shared) (sym (same.statements number)))

  update_here : (number : ℕ) (values : List Value) (s : SourceFrame W) → on_shared (update ask number (by_number P.facts.operations number) values) s ≡ on_shared (works (first_cells (fresh_of code)) ask (operation number (first.statements_of code number) values) changed) s
  update_here number values s =
      ap (beside {Q = Q} s.locals) (update_same (fresh_of code) Q W ask number (statement_in (by_number P.facts.operations number)) values s.shared
      ∙ ap (λ (z : Option Statement). works (first_cells (fresh_of code)) ask (operation number z values) changed s.shared) (sym (same.statements number)))

  -- ---- calls

  abbrev Calling : Named → Option Expr → List Expr → Type 0
  Calling name of args = (id token : ℕ) (o : Draft) → n ≤ length o.slots → Lowered (called (around Q W ask P code source_calls calls n) name (option_map means of) (map means args)) o (call_low P name (option_map (part_of P) of) (map (part_of P) args) id token o)

  pub method_call : (method : ℕ) (of : Option Expr) (args : List Expr) → LowersReceiver of → All args → Calling (named.Method method) of args
  method_call method of args h k id token o le =
      own_call of args (params_of P.facts (named.Method method)) o id token h k le (invoke (around Q W ask P code source_calls calls n) (named.Method method)) (λ a xs. step.Call a method xs) (code_type (type_at P.facts id)) (λ high a xs u v. (u, v)) (λ a xs s slots. method_same method (operand slots a) (operands slots xs) _ s)

  pub length_call : (of : Option Expr) (args : List Expr) → LowersReceiver of → All args → Calling named.TextLength of args
  length_call of args h k id token o le =
      own_call of args [] o id token h k le (invoke (around Q W ask P code source_calls calls n) named.TextLength) (λ a xs. step.Op op.Length a None) (code_type (type_at P.facts id)) (λ high a xs u v. (u, tt)) (λ a xs s slots. came_same (first_cells (fresh_of code)) (apply op.Length (operand slots a) (operand slots a)) s)

  pub equals_call : (of : Option Expr) (args : List Expr) → LowersReceiver of → All args → Calling named.TextEquals of args
  equals_call of args h k id token o le =
      own_call of args [] o id token h k le (invoke (around Q W ask P code source_calls calls n) named.TextEquals) (λ a xs. step.Op op.Equals a (Some (first_of xs))) (code_type (type_at P.facts id)) (λ high a xs u v. (u, first_below high xs v))
      (λ a xs s slots. came_same (first_cells (fresh_of code)) (apply op.Equals (operand slots a) (unwrap_or (slice_get (operands slots xs) 0) Null)) s
      ∙ ap (λ v. on_shared {Q = Q} (does (first_cells (fresh_of code)) (Comes (apply op.Equals (operand slots a) v))) s) (sym (first_operand slots xs)))

  pub next_call : (of : Option Expr) (args : List Expr) → LowersReceiver of → All args → Calling named.Next of args
  next_call of args h k id token o le =
      own_call of args [] o id token h k le (invoke (around Q W ask P code source_calls calls n) named.Next) (λ a xs. step.Next a) (code_type (type_at P.facts id)) (λ high a xs u v. u) (λ a xs s slots. next_same (operand slots a) s)

  pub long_call : (of : Option Expr) (args : List Expr) → LowersReceiver of → All args → Calling named.GetLong of args
  long_call of args h k id token o le =
      own_call of args [] o id token h k le (invoke (around Q W ask P code source_calls calls n) named.GetLong) (λ a xs. step.Long a (first_of xs)) (code_type (type_at P.facts id)) (λ high a xs u v. (u, first_below high xs v))
      (λ a xs s slots. column_same rows.long_in (operand slots a) (unwrap_or (slice_get (operands slots xs) 0) Null) s
      ∙ ap (λ v. on_shared {Q = Q} (does (first_cells (fresh_of code)) (rows.get_column (first.statements_of code) rows.long_in (operand slots a) v)) s) (sym (first_operand slots xs)))

  pub text_call : (of : Option Expr) (args : List Expr) → LowersReceiver of → All args → Calling named.GetString of args
  text_call of args h k id token o le =
      own_call of args [] o id token h k le (invoke (around Q W ask P code source_calls calls n) named.GetString) (λ a xs. step.Text a (first_of xs)) (code_type (type_at P.facts id)) (λ high a xs u v. (u, first_below high xs v))
      (λ a xs s slots. column_same rows.text_in (operand slots a) (unwrap_or (slice_get (operands slots xs) 0) Null) s
      ∙ ap (λ v. on_shared {Q = Q} (does (first_cells (fresh_of code)) (rows.get_column (first.statements_of code) rows.text_in (operand slots a) v)) s) (sym (first_operand slots xs)))

  pub query_call : (number site : ℕ) (of : Option Expr) (written : Expr) (args : List Expr) → All args → Calling (named.Query number site) of (written ∷ args)
  query_call number site of written args k id token o le =
      db_call args (params_of P.facts (named.Query number site)) (received P true (option_map (part_of P) of) id o).value.counter o id token k le (invoke (around Q W ask P code source_calls calls n) (named.Query number site)) (λ xs. step.Query number site xs) (code_type (type_at P.facts id)) (λ high xs v. v) (λ xs s slots. query_here number site (operands slots xs) s)

  pub update_call : (number : ℕ) (of : Option Expr) (written : Expr) (args : List Expr) → All args → Calling (named.Update number) of (written ∷ args)
  update_call number of written args k id token o le =
      db_call args (params_of P.facts (named.Update number)) (received P true (option_map (part_of P) of) id o).value.counter o id token k le (invoke (around Q W ask P code source_calls calls n) (named.Update number)) (λ xs. step.Update number xs) (code_type (type_at P.facts id)) (λ high xs v. v) (λ xs s slots. update_here number (operands slots xs) s)
