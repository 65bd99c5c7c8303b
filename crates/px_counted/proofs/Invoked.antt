-- What is counted of calls: of methods, of the library and of `Db`.
use Rattle.std.proofs.Common.{◌≡◌, ℕ, zero, suc, ◌+◌, ◌≤◌, ◌<◌, false, List, [], ◌∷◌, length, map, Option, Some, None, option_map, slice_index_or, unwrap_or, refl, sym, ap, ◌∙◌, subst, arith}
use Rattle.px_value.specs.declared.value.Value.{Value}
use Rattle.px_value.specs.declared.value.Value.TheVariants.{Null}
use Rattle.px_value.specs.declared.op.Op.TheVariants as op
use Rattle.px_value.specs.Operators.{apply}
use Rattle.px_value.specs.Outcome.{Outcome, Gives, Throws, Asks, then_run, ◌>>=◌}
use Rattle.px_tree.specs.declared.Expr.{Expr}
use Rattle.px_facts.specs.declared.types.Ty.{Ty as Static}
use Rattle.px_facts.specs.declared.types.Ty.TheVariants as static
use Rattle.px_facts.specs.declared.checked.Named.TheVariants as named
use Rattle.px_facts.specs.declared.checked.Checked.{Checked}
use Rattle.px_effects.specs.Run.{Ask}
use Rattle.px_effects.specs.Cells.{first_cells}
use Rattle.px_effects.specs.Rows as rows
use Rattle.px_effects.specs.Operations.{operation}
use Rattle.px_mean.specs.Run.{Frame as SourceFrame, Here as SourceHere, gather}
use Rattle.px_mean.specs.Facts.{type_at, by_number}
use Rattle.px_mean.specs.Effects.{no_object, statement_in, statements_of}
use Rattle.px_mean.specs.Expressions.{Calls as SourceCalls, Around, Meant, this_value, receiver, fitted, invoke, value_at, fit}
use Rattle.px_normal.specs.declared.ty.Ty.{Ty}
use Rattle.px_normal.specs.declared.node.Counter.{Counter}
use Rattle.px_normal.specs.declared.node.Counter.TheVariants.{Begun, Completed}
use Rattle.px_normal.specs.declared.word.Operand.{Operand}
use Rattle.px_normal.specs.declared.word.Operand.TheVariants.{Slot}
use Rattle.px_normal.specs.declared.code.Code.{Code}
use Rattle.px_normal.specs.CodeRun.{Calls}
use Rattle.px_lowering.specs.declared.draft.Draft.{Draft}
use Rattle.px_lowering.specs.declared.valued.Step.{Step}
use Rattle.px_lowering.specs.declared.valued.Step.TheVariants as step
use Rattle.px_lowering.specs.declared.valued.Had.TheVariants.{Made}
use Rattle.px_lowering.specs.Emit.{Lasted, Operated}
use Rattle.px_lowering.specs.Expressions.{low, part_of, operand_at, fit_to, fitted_operand, received, arguments, first_of}
use Rattle.px_counts.specs.Marks.{Marked, marked_ask}
use Rattle.px_counts.proofs.Unmarked.{SameHere, SameThere}
use Rattle.px_counts.proofs.Beside.{came_here, act_here}
use Rattle.px_preservation.proofs.Agree.{CallsMeet, IsLowered, Lowers, into, unused}
use Rattle.px_preservation.proofs.Program.{SameProgram}
use Rattle.px_preservation.proofs.Arguments.{AllLower, arguments_row, row_none as plain_none, row_more as plain_more}
use Rattle.px_preservation.proofs.Invoked.{this_operand}
use Rattle.px_mean.proofs.Forms.{meant_type}
use Rattle.px_counted.specs.Laws.{NeverThrows}
use Rattle.px_counted.proofs.Steps.{CallsCount, call_counted, word_counted, step_works, IsNoCall}
use Rattle.px_counted.proofs.Keeps.{KeepsHere, keeping, keeps_shared, keeps_work}
use Rattle.px_counted.proofs.Pieces.{grows_more, grows_up}
use Rattle.px_counted.proofs.Given.{gives, gives_all}
use Rattle.px_counted.proofs.Operands.{IsLate, own, CountsLowered, CountsOperand, operand_counts}
use Rattle.px_counted.proofs.Values.{M}
use Rattle.px_counted.proofs.Fits.{counts_fit}
use Rattle.px_counted.proofs.Rows.{CountsRow, StepRuns, row_none, row_this, row_last, row_more, counts_row, counts_first}
use Rattle.px_counted.proofs.Expressions.{marks_of, B, D, A, AM, means, marked_means, marked_type, Counts, operand_expr, wider}

-- the counter of a statement behind these operands
abbrev pub last_counter : Counter → List Expr → Counter
last_counter before [] = before
last_counter before (x ∷ xs) = last_counter (Completed x.id) xs

counter_is : (P : Checked) (types : List Static) (place : ℕ) (before : Counter) (xs : List Expr) (o : Draft) → (arguments P types place before (map (part_of P) xs) o).value.counter ≡ last_counter before xs
counter_is P types place before [] o = refl
counter_is P types place before (x ∷ xs) o = counter_is P types (place + 1) (Completed x.id) xs (fitted_operand P (slice_index_or types place static.Unknown) (part_of P x) o).out

module _ (Q W : Type 0) (ask : Ask Q W) (never : NeverThrows Q W ask) (P : Checked) (code : Code) (source_calls : SourceCalls Q W) (calls : Calls Q W) (n k : ℕ) (counter : Counter) (met : CallsMeet Q W ask P code source_calls calls n) (same : SameProgram P code) (marked_calls : SourceCalls Q (Marked W)) (alike : (method : ℕ) (values : List Value) → SameThere Q W (Option Value) (marked_calls method values) (source_calls method values)) (count : CallsCount Q W ask code calls k counter never marked_calls) where
  abbrev HereM : Type 0 → Type 0
  HereM A = M Q W ask never P code source_calls calls n k counter A

  abbrev Op : (given id inner : ℕ) → HereM Value → SourceHere Q W Value → Draft → Operated → Type 0
  Op = CountsOperand Q W ask P code source_calls calls n k counter

  abbrev Low' : (given id : ℕ) → HereM Value → SourceHere Q W Value → Draft → Lasted → Type 0
  Low' = CountsLowered Q W ask P code source_calls calls n k counter

  abbrev Row : (given : ℕ) (Due : Type 0) → List (HereM Value) → List (SourceHere Q W Value) → Draft → Draft → List Operand → Type 0
  Row = CountsRow Q W ask never P code source_calls calls n k counter met

  abbrev Steps : (List Value → HereM Value) → Step → List Operand → Type 0
  Steps = StepRuns Q W ask never P code source_calls calls n k counter met

  abbrev C : Expr → Type 0
  C = Counts Q W ask never P code source_calls calls n k counter met same marked_calls alike

  abbrev MM : Expr → Meant Q (Marked W)
  MM = marked_means Q W ask never P code source_calls calls n k counter met same marked_calls alike

  abbrev SM : Expr → Meant Q W
  SM = means Q W ask never P code source_calls calls n k counter met same marked_calls alike

  abbrev Around' : Around Q (Marked W)
  Around' = AM Q W ask never P code source_calls calls n k counter met same marked_calls alike

  abbrev Plainly : Around Q W
  Plainly = A Q W ask never P code source_calls calls n k counter met same marked_calls alike

  abbrev Bn : ℕ → ℕ
  Bn = B Q W ask never P code source_calls calls n k counter met same marked_calls alike

  abbrev Dn : ℕ → ℕ
  Dn = D Q W ask never P code source_calls calls n k counter met same marked_calls alike

  abbrev Marks : ℕ → HereM Value → HereM Value
  Marks = marks_of Q W ask never P code source_calls calls n k counter met same marked_calls alike

  abbrev LowersExpr : Expr → Type 0
  LowersExpr = Lowers Q W ask P code source_calls calls n

  -- ---- fitted operands

  pub fit_counts : (x : Expr) → C x → (to : Static) (o : Draft) → n ≤ length o.slots → gives counter x ≤ 1 → Low' (gives counter x) x.id ((MM x).run >>= fit (MM x).ty to) ((SM x).run >>= fit (SM x).ty to) o (fit_to P to (part_of P x) o)
  fit_counts x h to o le few =
      subst (λ (t : Static). Low' (gives counter x) x.id ((MM x).run >>= fit t to) ((SM x).run >>= fit (SM x).ty to) o (fit_to P to (part_of P x) o)) (sym (marked_type Q W ask never P code source_calls calls n k counter met same marked_calls alike x))
      (subst (λ (t : Static). Low' (gives counter x) x.id ((MM x).run >>= fit (type_at P.facts x.id) to) ((SM x).run >>= fit t to) o (fit_to P to (part_of P x) o)) (sym (meant_type Q W Plainly x))
      (counts_fit Q W ask never P code source_calls calls n k counter met (type_at P.facts x.id) to (gives counter x) x.id (MM x).run (SM x).run o ((low P x).part.lower o) le (h o le few)))

  pub fitted_counts : (x : Expr) → C x → (to : Static) (o : Draft) → n ≤ length o.slots → gives counter x ≤ 1 → Op (gives counter x) x.id (fit_to P to (part_of P x) o).value.id ((MM x).run >>= fit (MM x).ty to) ((SM x).run >>= fit (SM x).ty to) o (fitted_operand P to (part_of P x) o)
  fitted_counts x h to o le few = operand_counts Q W ask P code source_calls calls n k counter (gives counter x) x.id _ _ o (fit_to P to (part_of P x) o) (fit_counts x h to o le few)

  -- ---- rows of arguments

  abbrev pub AllC : List Expr → Type 0
  AllC [] = Unit {0}
  AllC (x ∷ xs) = C x × AllC xs

  abbrev Due : List Expr → Type 0
  Due [] = ⊥
  Due (x ∷ xs) = counter ≡ last_counter (Completed x.id) xs

  weaker : (g : ℕ) (Du Du' : Type 0) (rs : List (HereM Value)) (rs' : List (SourceHere Q W Value)) (o out : Draft) (xs : List Operand) → (Du' → Du) → Row g Du rs rs' o out xs → Row g Du' rs rs' o out xs
  weaker g Du Du' rs rs' o out xs f i = record { same = i.same; plain = i.plain; grows = i.grows; due = λ d. i.due (f d); counts = λ known there e eq late. i.counts known there e eq (λ h. f (late h)) }

  args_counts : (types : List Static) (place : ℕ) (before : Counter) (xs : List Expr) (o : Draft) → n ≤ length o.slots → AllC xs → AllLower Q W ask P code source_calls calls n met xs → gives_all counter xs ≤ 1 → Row (gives_all counter xs) (Due xs) (fitted types place (map MM xs)) (fitted types place (map SM xs)) o (arguments P types place before (map (part_of P) xs) o).out (arguments P types place before (map (part_of P) xs) o).value.operands
  args_counts types place before [] o le h l few = row_none Q W ask never P code source_calls calls n k counter met o (arguments_row Q W ask P code source_calls calls n met types place before [] o le l)
  args_counts types place before (x ∷ []) o le h l few =
      let to = slice_index_or types place static.Unknown in
      let f0 : gives counter x ≤ 1 = omega (arith, few) in
      let zero' : gives counter x ≡ gives counter x + 0 = omega (arith) in
      subst (λ (g : ℕ). Row g (Due (x ∷ [])) (fitted types place (map MM (x ∷ []))) (fitted types place (map SM (x ∷ []))) o (fitted_operand P to (part_of P x) o).out ((fitted_operand P to (part_of P x) o).operand ∷ [])) zero'
      (weaker (gives counter x) _ (Due (x ∷ [])) _ _ o _ _ (λ e. own e)
      (row_last Q W ask never P code source_calls calls n k counter met (gives counter x) x.id (fit_to P to (part_of P x) o).value.id _ _ o (fitted_operand P to (part_of P x) o) (fitted_counts x h.0 to o le f0) (arguments_row Q W ask P code source_calls calls n met types place before (x ∷ []) o le l)))
  args_counts types place before (x ∷ y ∷ ys) o le h l few =
      let to = slice_index_or types place static.Unknown in
      let a = fitted_operand P to (part_of P x) o in
      let i = fitted_counts x h.0 to o le (omega (arith, few)) in
      row_more Q W ask never P code source_calls calls n k counter met (gives counter x) x.id (fit_to P to (part_of P x) o).value.id (gives_all counter (y ∷ ys)) (Due (y ∷ ys)) _ _ _ _ o a _ _ le i
      (args_counts types (place + 1) (Completed x.id) (y ∷ ys) a.out (wider Q W ask never P code source_calls calls n k counter met same marked_calls alike _ o a le i.plain) h.1 l.1 (omega (arith, few)))
      (arguments_row Q W ask P code source_calls calls n met types place before (x ∷ y ∷ ys) o le l) few

  -- ---- last statements

  no_call : (f : List Value → HereM Value) → ((vs : List Value) → KeepsHere Q W Value (f vs)) → (x : Step) → IsNoCall Q W ask code calls k counter never x → (xs : List Operand) → Steps f x xs
  no_call f keeps x h xs = λ node to word fin vs s c eq ag j. word_counted Q W ask code calls k counter never Value node word (f vs) s c (keeps vs) (step_works Q W ask code calls k counter never x to word fin h c.locals) j

  a_call : (method : ℕ) (a : Operand) (xs : List Operand) → Steps (invoke Around' (named.Method method)) (step.Call a method xs) (a ∷ xs)
  a_call method a xs node _ _ (into _ to) vs s c eq ag j = call_counted Q W ask code calls k counter never marked_calls count node (Some to) a method xs vs s c eq ag.shared j
  a_call method a xs node _ _ (unused _ _ _) vs s c eq ag j = call_counted Q W ask code calls k counter never marked_calls count node None a method xs vs s c eq ag.shared j

  -- ---- the receiver, the arguments and the call

  rows_join : (r : HereM Value) (rs : List (HereM Value)) (f : List Value → HereM Value) (s : SourceFrame (Marked W)) → (gather [] (r ∷ rs) >>= f) s ≡ (gather [] (r ∷ []) >>= (λ there. gather there rs >>= f)) s
  rows_join r rs f s = joined_at (r s)
    where
      joined_at : (o : Outcome Q (SourceFrame (Marked W)) Value) → then_run (then_run o (λ a. gather (a ∷ []) rs)) f ≡ then_run (then_run o (λ a. gather (a ∷ []) [])) (λ there. gather there rs >>= f)
      joined_at (Gives a t) = refl
      joined_at (Throws t s') = refl
      joined_at (Asks q s') = refl

  abbrev Result : (o : Draft) (id token : ℕ) → Step → Ty → Counter → Lasted
  Result o id token x t y = record { out = o; value = record { id = id; token = token; had = Made x t y } }

  abbrev CallRun : (r : HereM Value) (rs : List (HereM Value)) → (List Value → HereM Value) → HereM Value
  CallRun r rs f = gather [] (r ∷ []) >>= (λ there. gather there rs >>= f)

  by_row : (g : ℕ) (Du : Type 0) (r : HereM Value) (rs : List (HereM Value)) (rs' : List (SourceHere Q W Value)) (o out : Draft) (xs : List Operand) → Row g Du (r ∷ rs) rs' o out xs → n ≤ length o.slots → (f : List Value → HereM Value) (x : Step) → Steps f x xs → (t : Ty) (y : Counter) → (counter ≡ y → Du) → (id token : ℕ) (r' : SourceHere Q W Value) → SameHere Q W Value (Marks id (CallRun r rs f)) r' → IsLowered Q W ask P code source_calls calls n r' o (Result out id token x t y) → (Bn id + Dn id) + g ≤ 1 → Low' ((Bn id + Dn id) + g) id (Marks id (CallRun r rs f)) r' o (Result out id token x t y)
  by_row g Du r rs rs' o out xs i le f x runs t y due id token r' s p few =
      let path : (gather [] (r ∷ rs) >>= f) ≡ CallRun r rs f = (λ j st. rows_join r rs f st j) in
      subst (λ (q : HereM Value). Low' ((Bn id + Dn id) + g) id (Marks id q) r' o (Result out id token x t y)) path
      (counts_row Q W ask never P code source_calls calls n k counter met g Du (r ∷ rs) rs' o out xs i le f x runs t y due id token r' (subst (λ (q : HereM Value). SameHere Q W Value (Marks id q) r') (sym path) s) p few)

  abbrev pub Given : Option Expr → List Expr → ℕ
  Given None args = 0 + gives_all counter args
  Given (Some of) args = gives counter of + gives_all counter args

  abbrev pub Receives : Option Expr → Type 0
  Receives None = 0 < n
  Receives (Some x) = LowersExpr x × C x

  abbrev OwnCall : (of : Option Expr) (args : List Expr) (types : List Static) → (List Value → HereM Value) → (Operand → List Operand → Step) → Type 0
  OwnCall of args types f x = (o : Draft) (id token : ℕ) (t : Ty) (r' : SourceHere Q W Value) → n ≤ length o.slots → (Bn id + Dn id) + Given of args ≤ 1
      → let a = received P false (option_map (part_of P) of) id o in
      let r = arguments P types 0 a.value.counter (map (part_of P) args) a.out in
      SameHere Q W Value (Marks id (CallRun (receiver (option_map MM of)) (fitted types 0 (map MM args)) f)) r' → IsLowered Q W ask P code source_calls calls n r' o (Result r.out id token (x a.value.operand r.value.operands) t r.value.counter)
      → Low' ((Bn id + Dn id) + Given of args) id (Marks id (CallRun (receiver (option_map MM of)) (fitted types 0 (map MM args)) f)) r' o (Result r.out id token (x a.value.operand r.value.operands) t r.value.counter)

  pub own_call : (of : Option Expr) (args : List Expr) (types : List Static) (f : List Value → HereM Value) (x : Operand → List Operand → Step) → ((a : Operand) (xs : List Operand) → Steps f (x a xs) (a ∷ xs)) → Receives of → AllC args → AllLower Q W ask P code source_calls calls n met args → OwnCall of args types f x
  own_call None [] types f x runs some h l o id token t r' le few s p =
      let zero' : Bn id + Dn id ≡ (Bn id + Dn id) + (0 + 0) = omega (arith) in
      subst (λ (g : ℕ). Low' g id (Marks id (CallRun this_value [] f)) r' o (Result o id token (x (Slot 0) []) t (Begun id))) zero'
      (counts_first Q W ask never P code source_calls calls n k counter met (CallRun this_value [] f) r' o (x (Slot 0) []) (λ node to word fin st c ag j. runs (Slot 0) [] node to word fin _ st c (ap (λ (v : Option Value). unwrap_or v Null ∷ []) (ag.locals 0 some)) ag j) t (Begun id) id token (λ e. e) s p (omega (arith, few)))
  own_call None (y ∷ ys) types f x runs some h l o id token t r' le few s p =
      let q = args_counts types 0 (Begun id) (y ∷ ys) o le h l (omega (arith, few)) in
      let zero' : gives_all counter (y ∷ ys) ≡ 0 + gives_all counter (y ∷ ys) = omega (arith) in
      let xs = (arguments P types 0 (Begun id) (map (part_of P) (y ∷ ys)) o).value.operands in
      subst (λ (g : ℕ). Low' ((Bn id + Dn id) + g) id (Marks id (CallRun this_value (fitted types 0 (map MM (y ∷ ys))) f)) r' o (Result (arguments P types 0 (Begun id) (map (part_of P) (y ∷ ys)) o).out id token (x (Slot 0) xs) t (arguments P types 0 (Begun id) (map (part_of P) (y ∷ ys)) o).value.counter)) zero'
      (by_row (gives_all counter (y ∷ ys)) (Due (y ∷ ys)) this_value _ _ o _ (Slot 0 ∷ xs)
      (row_this Q W ask never P code source_calls calls n k counter met (gives_all counter (y ∷ ys)) (Due (y ∷ ys)) _ _ o _ xs q (plain_more Q W ask P code source_calls calls n met this_value _ o _ (record { out = o; operand = Slot 0 }) xs le (this_operand Q W ask P code source_calls calls n met same o some le) q.plain))
      le f (x (Slot 0) xs) (runs (Slot 0) xs) t _ (λ e. e ∙ counter_is P types 0 (Begun id) (y ∷ ys) o) id token r' s p (omega (arith, few)))
  own_call (Some of) [] types f x runs some h l o id token t r' le few s p =
      let a = operand_at P (part_of P of) o in
      let f0 : gives counter of ≤ 1 = omega (arith, few) in
      let i = operand_expr Q W ask never P code source_calls calls n k counter met same marked_calls alike of some.1 o le f0 in
      let zero' : gives counter of ≡ gives counter of + 0 = omega (arith) in
      subst (λ (g : ℕ). Low' ((Bn id + Dn id) + g) id (Marks id (CallRun (MM of).run [] f)) r' o (Result a.out id token (x a.operand []) t (Completed of.id))) zero'
      (by_row (gives counter of) (IsLate counter of.id ((low P of).part.lower o).value.id) (MM of).run [] _ o a.out (a.operand ∷ [])
      (row_last Q W ask never P code source_calls calls n k counter met (gives counter of) of.id _ (MM of).run (SM of).run o a i (plain_more Q W ask P code source_calls calls n met (SM of).run [] o a.out a [] le i.plain (plain_none Q W ask P code source_calls calls n met a.out)))
      le f (x a.operand []) (runs a.operand []) t (Completed of.id) (λ e. own e) id token r' s p (omega (arith, few)))
  own_call (Some of) (y ∷ ys) types f x runs some h l o id token t r' le few s p =
      let a = operand_at P (part_of P of) o in
      let i = operand_expr Q W ask never P code source_calls calls n k counter met same marked_calls alike of some.1 o le (omega (arith, few)) in
      let le1 = wider Q W ask never P code source_calls calls n k counter met same marked_calls alike _ o a le i.plain in
      let q = args_counts types 0 (Completed of.id) (y ∷ ys) a.out le1 h l (omega (arith, few)) in
      let xs = (arguments P types 0 (Completed of.id) (map (part_of P) (y ∷ ys)) a.out).value.operands in
      by_row (gives counter of + gives_all counter (y ∷ ys)) (Due (y ∷ ys)) (MM of).run _ _ o _ (a.operand ∷ xs)
      (row_more Q W ask never P code source_calls calls n k counter met (gives counter of) of.id _ (gives_all counter (y ∷ ys)) (Due (y ∷ ys)) (MM of).run (SM of).run _ _ o a _ xs le i q (plain_more Q W ask P code source_calls calls n met (SM of).run _ o _ a xs le i.plain q.plain) (omega (arith, few)))
      le f (x a.operand xs) (runs a.operand xs) t _ (λ e. e ∙ counter_is P types 0 (Completed of.id) (y ∷ ys) a.out) id token r' s p few

  -- ---- each name

  abbrev KeepsAll : (List Value → HereM Value) → Type 0
  KeepsAll f = (vs : List Value) → KeepsHere Q W Value (f vs)

  keeps_length : KeepsAll (invoke Around' named.TextLength)
  keeps_length vs = came_here Q (Marked W) Q (Marked W) (marked_ask ask) (marked_ask ask) (keeping Q W ask) (apply op.Length (value_at vs 0) (value_at vs 0))

  keeps_equals : KeepsAll (invoke Around' named.TextEquals)
  keeps_equals vs = came_here Q (Marked W) Q (Marked W) (marked_ask ask) (marked_ask ask) (keeping Q W ask) (apply op.Equals (value_at vs 0) (value_at vs 1))

  keeps_next : KeepsAll (invoke Around' named.Next)
  keeps_next vs = act_here Q (Marked W) Q (Marked W) (marked_ask ask) (marked_ask ask) (keeping Q W ask) (rows.next (statements_of P.facts) (value_at vs 0))

  keeps_long : KeepsAll (invoke Around' named.GetLong)
  keeps_long vs = act_here Q (Marked W) Q (Marked W) (marked_ask ask) (marked_ask ask) (keeping Q W ask) (rows.get_column (statements_of P.facts) rows.long_in (value_at vs 0) (value_at vs 1))

  keeps_text : KeepsAll (invoke Around' named.GetString)
  keeps_text vs = act_here Q (Marked W) Q (Marked W) (marked_ask ask) (marked_ask ask) (keeping Q W ask) (rows.get_column (statements_of P.facts) rows.text_in (value_at vs 0) (value_at vs 1))

  keeps_query : (number site : ℕ) → KeepsAll (invoke Around' (named.Query number site))
  keeps_query number site vs = keeps_shared Q W Value _ (keeps_work Q W ask (first_cells no_object) (operation number (statement_in (by_number P.facts.operations number)) vs) (rows.make_rows number site))

  keeps_update : (number : ℕ) → KeepsAll (invoke Around' (named.Update number))
  keeps_update number vs = keeps_shared Q W Value _ (keeps_work Q W ask (first_cells no_object) (operation number (statement_in (by_number P.facts.operations number)) vs) rows.changed)

  pub method_call : (method : ℕ) (of : Option Expr) (args : List Expr) (types : List Static) → Receives of → AllC args → AllLower Q W ask P code source_calls calls n met args → OwnCall of args types (invoke Around' (named.Method method)) (λ a xs. step.Call a method xs)
  method_call method of args types = own_call of args types (invoke Around' (named.Method method)) (λ a xs. step.Call a method xs) (a_call method)

  pub length_call : (of : Option Expr) (args : List Expr) (types : List Static) → Receives of → AllC args → AllLower Q W ask P code source_calls calls n met args → OwnCall of args types (invoke Around' named.TextLength) (λ a xs. step.Op op.Length a None)
  length_call of args types = own_call of args types (invoke Around' named.TextLength) (λ a xs. step.Op op.Length a None) (λ a xs. no_call (invoke Around' named.TextLength) keeps_length (step.Op op.Length a None) tt (a ∷ xs))

  pub equals_call : (of : Option Expr) (args : List Expr) (types : List Static) → Receives of → AllC args → AllLower Q W ask P code source_calls calls n met args → OwnCall of args types (invoke Around' named.TextEquals) (λ a xs. step.Op op.Equals a (Some (first_of xs)))
  equals_call of args types = own_call of args types (invoke Around' named.TextEquals) (λ a xs. step.Op op.Equals a (Some (first_of xs))) (λ a xs. no_call (invoke Around' named.TextEquals) keeps_equals (step.Op op.Equals a (Some (first_of xs))) tt (a ∷ xs))

  pub next_call : (of : Option Expr) (args : List Expr) (types : List Static) → Receives of → AllC args → AllLower Q W ask P code source_calls calls n met args → OwnCall of args types (invoke Around' named.Next) (λ a xs. step.Next a)
  next_call of args types = own_call of args types (invoke Around' named.Next) (λ a xs. step.Next a) (λ a xs. no_call (invoke Around' named.Next) keeps_next (step.Next a) tt (a ∷ xs))

  pub long_call : (of : Option Expr) (args : List Expr) (types : List Static) → Receives of → AllC args → AllLower Q W ask P code source_calls calls n met args → OwnCall of args types (invoke Around' named.GetLong) (λ a xs. step.Long a (first_of xs))
  long_call of args types = own_call of args types (invoke Around' named.GetLong) (λ a xs. step.Long a (first_of xs)) (λ a xs. no_call (invoke Around' named.GetLong) keeps_long (step.Long a (first_of xs)) tt (a ∷ xs))

  pub text_call : (of : Option Expr) (args : List Expr) (types : List Static) → Receives of → AllC args → AllLower Q W ask P code source_calls calls n met args → OwnCall of args types (invoke Around' named.GetString) (λ a xs. step.Text a (first_of xs))
  text_call of args types = own_call of args types (invoke Around' named.GetString) (λ a xs. step.Text a (first_of xs)) (λ a xs. no_call (invoke Around' named.GetString) keeps_text (step.Text a (first_of xs)) tt (a ∷ xs))

  -- calls of `Db`: no receiver, and the text isn't lowered
  abbrev DbCall : (args : List Expr) (types : List Static) → (List Value → HereM Value) → (List Operand → Step) → Type 0
  DbCall args types f x = (o : Draft) (id token : ℕ) (t : Ty) (r' : SourceHere Q W Value) → n ≤ length o.slots → (Bn id + Dn id) + gives_all counter args ≤ 1
      → let r = arguments P types 0 (Begun id) (map (part_of P) args) o in
      SameHere Q W Value (Marks id (gather [] (fitted types 0 (map MM args)) >>= f)) r' → IsLowered Q W ask P code source_calls calls n r' o (Result r.out id token (x r.value.operands) t r.value.counter)
      → Low' ((Bn id + Dn id) + gives_all counter args) id (Marks id (gather [] (fitted types 0 (map MM args)) >>= f)) r' o (Result r.out id token (x r.value.operands) t r.value.counter)

  db_call : (args : List Expr) (types : List Static) (f : List Value → HereM Value) (x : List Operand → Step) → ((xs : List Operand) → Steps f (x xs) xs) → AllC args → AllLower Q W ask P code source_calls calls n met args → DbCall args types f x
  db_call [] types f x runs h l o id token t r' le few s p =
      let zero' : Bn id + Dn id ≡ (Bn id + Dn id) + 0 = omega (arith) in
      subst (λ (g : ℕ). Low' g id (Marks id (gather [] [] >>= f)) r' o (Result o id token (x []) t (Begun id))) zero'
      (counts_first Q W ask never P code source_calls calls n k counter met (gather [] [] >>= f) r' o (x []) (λ node to word fin st c ag j. runs [] node to word fin [] st c refl ag j) t (Begun id) id token (λ e. e) s p (omega (arith, few)))
  db_call (y ∷ ys) types f x runs h l o id token t r' le few s p =
      let xs = (arguments P types 0 (Begun id) (map (part_of P) (y ∷ ys)) o).value.operands in
      counts_row Q W ask never P code source_calls calls n k counter met (gives_all counter (y ∷ ys)) (Due (y ∷ ys)) _ _ o _ xs (args_counts types 0 (Begun id) (y ∷ ys) o le h l (omega (arith, few))) le f (x xs) (runs xs) t _ (λ e. e ∙ counter_is P types 0 (Begun id) (y ∷ ys) o) id token r' s p few

  pub query_call : (number site : ℕ) (args : List Expr) (types : List Static) → AllC args → AllLower Q W ask P code source_calls calls n met args → DbCall args types (invoke Around' (named.Query number site)) (λ xs. step.Query number site xs)
  query_call number site args types = db_call args types (invoke Around' (named.Query number site)) (λ xs. step.Query number site xs) (λ xs. no_call (invoke Around' (named.Query number site)) (keeps_query number site) (step.Query number site xs) tt xs)

  pub update_call : (number : ℕ) (args : List Expr) (types : List Static) → AllC args → AllLower Q W ask P code source_calls calls n met args → DbCall args types (invoke Around' (named.Update number)) (λ xs. step.Update number xs)
  update_call number args types = db_call args types (invoke Around' (named.Update number)) (λ xs. step.Update number xs) (λ xs. no_call (invoke Around' (named.Update number)) (keeps_update number) (step.Update number xs) tt xs)

  -- ---- numbers that are given where nothing is lowered

  same_given : (old new g m h e : ℕ) → m ≤ 1 → g ≤ m → old ≤ new → new ≤ old + g → new + h + e ≡ old + m → (1 ≤ h → 1 ≤ g) → (1 ≤ e → 1 ≤ g) → new + h + e ≡ old + g
  same_given old new g m zero zero few more up most eq a b = omega (arith, few, more, up, most, eq)
  same_given old new g m (suc h) e few more up most eq a b = let x = a (omega (arith)) in omega (arith, few, more, up, most, eq, x)
  same_given old new g m zero (suc e) few more up most eq a b = let x = b (omega (arith)) in omega (arith, few, more, up, most, eq, x)

  pub made_more : (g m id token : ℕ) (r : HereM Value) (r' : SourceHere Q W Value) (o out : Draft) (x : Step) (t : Ty) (y : Counter) → g ≤ m → m ≤ 1 → Low' g id r r' o (Result out id token x t y) → Low' m id r r' o (Result out id token x t y)
  made_more g m id token r r' o out x t y more few i = record {
    same = i.same;
    plain = i.plain;
    grows = grows_more Q W k counter g m o.nodes out.nodes more i.grows;
    late = λ e. let z = i.late e in omega (arith, z, more);
    made = λ e. let z = i.made e in omega (arith, z, more);
    counts = λ known node to word fin hc e eq late. i.counts known node to word fin hc e (same_given _ _ g m _ e few more (grows_up Q W k counter g o.nodes out.nodes i.grows) (i.grows.few known) eq (λ h. i.made (hc h)) (λ h. i.late (late h))) late;
  }
