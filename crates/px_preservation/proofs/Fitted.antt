-- An int where a long is wanted, and several operands before a last statement.
use Rattle.std.proofs.Common.{◌≡◌, ℕ, ◌≤◌, List, [], ◌∷◌, ◌++◌, append_assoc, length, None, Ok, Err, refl, sym, ap, ◌∙◌, subst, arith, ℤ}
use Rattle.px_value.specs.declared.value.Value.{Value}
use Rattle.px_value.specs.declared.value.Value.TheVariants.{Int, Long, Bool as Truth, Text, Ref, Null}
use Rattle.px_value.specs.declared.op.Op.TheVariants as op
use Rattle.px_value.specs.Operators.{Applied, apply}
use Rattle.px_value.specs.Outcome.{Outcome, Gives, Throws, Asks, then_run, ◌>>=◌, pure, on_shared, Flow, Goes}
use Rattle.px_facts.specs.declared.types.Ty.{Ty as Static}
use Rattle.px_facts.specs.declared.types.Ty.TheVariants as static
use Rattle.px_facts.specs.declared.checked.Checked.{Checked}
use Rattle.px_effects.specs.Run.{Ask, came_to}
use Rattle.px_effects.specs.Act.{Comes, Firsts, does}
use Rattle.px_effects.specs.Cells.{first_cells}
use Rattle.px_normal.specs.First.{fresh_of}
use Rattle.px_mean.specs.Run.{Frame as SourceFrame, Here as SourceHere}
use Rattle.px_mean.specs.Expressions.{Calls as SourceCalls, fit}
use Rattle.px_normal.specs.declared.ty.Ty.{Ty}
use Rattle.px_normal.specs.declared.ty.Ty.TheVariants as ty
use Rattle.px_normal.specs.declared.word.Operand.TheVariants.{Slot, Literal}
use Rattle.px_normal.specs.declared.method.Tree.{Tree}
use Rattle.px_normal.specs.declared.method.Tree.TheVariants.{Do}
use Rattle.px_normal.specs.declared.node.Counter.{Counter}
use Rattle.px_normal.specs.declared.node.Counter.TheVariants.{Completed}
use Rattle.px_normal.specs.declared.code.Code.{Code}
use Rattle.px_normal.specs.Run.{Frame}
use Rattle.px_normal.specs.Words.{operand}
use Rattle.px_normal.specs.CodeRun.{Calls, body_run}
use Rattle.px_lowering.specs.declared.draft.Draft.{Draft}
use Rattle.px_lowering.specs.declared.valued.Step.{Step}
use Rattle.px_lowering.specs.declared.valued.Step.TheVariants as step
use Rattle.px_lowering.specs.declared.valued.Had.{Had}
use Rattle.px_lowering.specs.declared.valued.Had.TheVariants.{Held, Chosen, Made}
use Rattle.px_lowering.specs.Emit.{Lasted, Operated, operated, widened_operand, widened, fitted}
use Rattle.px_preservation.proofs.Meets.{Meets, meets_at, meets_source}
use Rattle.px_preservation.proofs.Words.{step_source, step_ends}
use Rattle.px_preservation.proofs.Afters.{behind, grown, after_then, agree_after, operand_after, below_more}
use Rattle.px_preservation.proofs.Operands.{IsOperand, then_operand, operand_is, made_one}
use Rattle.px_preservation.proofs.Agree.{After, Wrote, Shares, IsBelow, IsStepBelow, CallsMeet, ComesTo, HadMeets, IsLowered}

pub then_pure : {Q S A : Type 0} (o : Outcome Q S A) → then_run o pure ≡ o
then_pure (Gives a s) = refl
then_pure (Throws t s) = refl
then_pure (Asks q s) = refl

-- a value or a throw, as an act
pub came_same : {Q W : Type 0} (firsts : Firsts) (a : Applied) (s : SourceFrame W) → came_to {Q = Q} a s ≡ on_shared (does firsts (Comes a)) s
came_same firsts (Ok v) s = refl
came_same firsts (Err t) s = refl

module _ (Q W : Type 0) (ask : Ask Q W) (P : Checked) (code : Code) (source_calls : SourceCalls Q W) (calls : Calls Q W) (n : ℕ) (met : CallsMeet Q W ask P code source_calls calls n) where
  abbrev run : List Tree → Frame W → Outcome Q (Frame W) (Flow Value)
  run = body_run code ask calls

  abbrev Lowered : SourceHere Q W Value → Draft → Lasted → Type 0
  Lowered = IsLowered Q W ask P code source_calls calls n

  abbrev HasOperand : SourceHere Q W Value → Draft → Operated → Type 0
  HasOperand = IsOperand Q W ask P code source_calls calls n

  abbrev says_step : Step → Frame W → SourceFrame W → Outcome Q (SourceFrame W) Value
  says_step x c s = on_shared (step_source Q W ask P code source_calls calls n met x c.locals) s

  -- two operands and a last statement
  pub made_two : (r q : SourceHere Q W Value) (o : Draft) (a b : Operated) → n ≤ length o.slots → HasOperand r o a → HasOperand q a.out b → (f : Value → Value → SourceHere Q W Value) (x : Step) (t : Ty) (counter : Counter) (id token : ℕ) → (IsBelow (length b.out.slots) a.operand → IsBelow (length b.out.slots) b.operand → IsStepBelow (length b.out.slots) x) → ((s : SourceFrame W) (c : Frame W) → f (operand c.locals a.operand) (operand c.locals b.operand) s ≡ says_step x c s) → Lowered (r >>= (λ v. q >>= f v)) o (record { out = b.out; value = record { id = id; token = token; had = Made x t counter } })
  made_two r q o a b le h k f x t counter id token below e =
      let g1 = grown o.slots a.out.slots h.temps h.slots_are in
      let g2 = grown a.out.slots b.out.slots k.temps k.slots_are in
      record {
        trees = h.trees ++ k.trees;
        temps = h.temps ++ k.temps;
        trees_are = behind o.trees a.out.trees b.out.trees h.trees k.trees h.trees_are k.trees_are;
        slots_are = behind o.slots a.out.slots b.out.slots h.temps k.temps h.slots_are k.slots_are;
        method_is = k.method_is ∙ h.method_is;
        below = below (below_more W (length a.out.slots) (length b.out.slots) a.operand g2 h.below) k.below;
        above = tt;
        meets = λ node to word end s c ag l.
            let R : Value → SourceFrame W → Flow Value → Frame W → Type 0 = λ v s' z c'. (z ≡ Goes) × Wrote W (length o.slots) to v s s' c c' in
            meets_at _ _ (run (h.trees ++ (k.trees ++ Do node word ∷ [])) c) R (Shares W) (ap (λ ts. run ts c) (append_assoc h.trees k.trees (Do node word ∷ [])))
            (then_operand Q W ask P code source_calls calls n (length o.slots) (length a.out.slots) r h.trees a.operand h.meets (λ v. q >>= f v) (k.trees ++ Do node word ∷ []) R s c ag (omega (arith, l, g2)) (λ s1 c1 p.
            then_operand Q W ask P code source_calls calls n (length a.out.slots) (length b.out.slots) q k.trees b.operand k.meets (f (operand c1.locals a.operand)) (Do node word ∷ []) R s1 c1 (agree_after W n (length o.slots) s s1 c c1 le ag p) (omega (arith, l, p.size)) (λ s2 c2 p2.
            let same : operand c2.locals a.operand ≡ operand c1.locals a.operand = operand_after W (length a.out.slots) s1 s2 c1 c2 a.operand h.below p2 in
            step_ends Q W ask P code source_calls calls n met (length o.slots) node x to word end (f (operand c1.locals a.operand) (operand c2.locals b.operand)) s s2 c c2 (after_then W (length o.slots) (length a.out.slots) s s1 s2 c c1 c2 g1 p p2) (ap (λ v. f v (operand c2.locals b.operand) s2) (sym same) ∙ e s2 c2))));
      }

  -- ---- fitting

  widened_op : (r : SourceHere Q W Value) (o : Draft) (x : Operated) (id token : ℕ) → HasOperand r o x → Lowered (r >>= fit static.Int static.Long) o (widened_operand id token x)
  widened_op r o x id token h = made_one Q W ask P code source_calls calls n met r o x h (fit static.Int static.Long) (step.Op op.Widen x.operand None) ty.Long (Completed id) id token (h.below, tt) (λ s c. came_same (first_cells (fresh_of code)) (apply op.Widen (operand c.locals x.operand) (operand c.locals x.operand)) s)

  -- a literal
  widened_literal : (r : SourceHere Q W Value) (o out : Draft) (i : ℤ) (id token : ℕ) (trees : List Tree) (temps : List Ty) → out.trees ≡ o.trees ++ trees → out.slots ≡ o.slots ++ temps → out.method ≡ o.method → ComesTo Q W ask P code source_calls calls n (length o.slots) (length out.slots) r trees (Literal (Int i)) → Lowered (r >>= fit static.Int static.Long) o (record { out = out; value = record { id = id; token = token; had = Held (Literal (Long i)) } })
  unfolding apply
  widened_literal r o out i id token trees temps e f g m = record {
    trees = trees;
    temps = temps;
    trees_are = e;
    slots_are = f;
    method_is = g;
    below = tt;
    above = tt;
    meets = λ s c ag l. meets_source (r s) (run trees c) (λ v s' z c'. (z ≡ Goes) × After W (length o.slots) s s' c c' × (Int i ≡ v)) (Shares W) (fit static.Int static.Long) (λ v s' z c'. (z ≡ Goes) × After W (length o.slots) s s' c c' × (Long i ≡ v)) (Shares W) (m s c ag l)
        (λ v s1 z c1 q. subst (λ u. Meets {Q = Q} (fit static.Int static.Long u s1) (Gives z c1) (λ v s' z c'. (z ≡ Goes) × After W (length o.slots) s s' c c' × (Long i ≡ v)) (Shares W)) q.2 (Long i, s1, refl, (q.0, q.1, refl)))
        (λ s' c' q. q);
  }

  widened_by : (r : SourceHere Q W Value) (o out : Draft) (id token : ℕ) (had : Had) (trees : List Tree) (temps : List Ty) → out.trees ≡ o.trees ++ trees → out.slots ≡ o.slots ++ temps → out.method ≡ o.method → HadMeets Q W ask P code source_calls calls n (length o.slots) (length out.slots) r trees had → HasOperand r o (operated P token had out) → Lowered (r >>= fit static.Int static.Long) o (widened P id token had out)
  widened_by r o out id token (Held (Literal (Int i))) trees temps e f g m h = widened_literal r o out i id token trees temps e f g m
  widened_by r o out id token (Held (Literal (Long i))) trees temps e f g m h = widened_op r o _ id token h
  widened_by r o out id token (Held (Literal (Truth b))) trees temps e f g m h = widened_op r o _ id token h
  widened_by r o out id token (Held (Literal (Text bytes))) trees temps e f g m h = widened_op r o _ id token h
  widened_by r o out id token (Held (Literal (Ref object))) trees temps e f g m h = widened_op r o _ id token h
  widened_by r o out id token (Held (Literal Null)) trees temps e f g m h = widened_op r o _ id token h
  widened_by r o out id token (Held (Slot k)) trees temps e f g m h = widened_op r o _ id token h
  widened_by r o out id token (Chosen slot) trees temps e f g m h = widened_op r o _ id token h
  widened_by r o out id token (Made x t counter) trees temps e f g m h = widened_op r o _ id token h

  -- a value that stays as it is
  kept : (r : SourceHere Q W Value) (o : Draft) (l : Lasted) → Lowered r o l → Lowered (r >>= pure) o l
  kept r o l h = subst (λ (q : SourceHere Q W Value). Lowered q o l) (λ i s. sym (then_pure (r s)) i) h

  pub fits : (from to : Static) (r : SourceHere Q W Value) (o : Draft) (l : Lasted) → Lowered r o l → Lowered (r >>= fit from to) o (fitted P from to l.value.id l.value.token l.value.had l.out)
  fits static.Int static.Long r o l h = widened_by r o l.out l.value.id l.value.token l.value.had h.trees h.temps h.trees_are h.slots_are h.method_is h.meets (operand_is Q W ask P code source_calls calls n r o l h)
  fits static.Int static.Int r o l h = kept r o l h
  fits static.Int static.Boolean r o l h = kept r o l h
  fits static.Int (static.Object class) r o l h = kept r o l h
  fits static.Int (static.Array element) r o l h = kept r o l h
  fits static.Int static.ResultSet r o l h = kept r o l h
  fits static.Int static.Text r o l h = kept r o l h
  fits static.Int static.Null r o l h = kept r o l h
  fits static.Int static.Void r o l h = kept r o l h
  fits static.Int static.Unknown r o l h = kept r o l h
  fits static.Long to r o l h = kept r o l h
  fits static.Boolean to r o l h = kept r o l h
  fits (static.Object class) to r o l h = kept r o l h
  fits (static.Array element) to r o l h = kept r o l h
  fits static.ResultSet to r o l h = kept r o l h
  fits static.Text to r o l h = kept r o l h
  fits static.Null to r o l h = kept r o l h
  fits static.Void to r o l h = kept r o l h
  fits static.Unknown to r o l h = kept r o l h
