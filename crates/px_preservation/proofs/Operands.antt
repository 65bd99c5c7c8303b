-- What statements need of expressions: the value as an operand or in a slot, or the call alone.
use Rattle.std.proofs.Common.{◌≡◌, ℕ, ◌+◌, ◌<◌, ◌≤◌, Bool, true, false, List, [], ◌∷◌, ◌++◌, append-nil, length, Option, Some, None, unwrap_or, refl, sym, ap, subst, arith}
use Rattle.px_value.specs.declared.value.Value.{Value}
use Rattle.px_value.specs.declared.value.Value.TheVariants.{Null}
use Rattle.px_value.specs.Outcome.{Outcome, Gives, then_run, ◌>>=◌, on_shared, Flow, Goes, goes_on}
use Rattle.px_facts.specs.declared.checked.Checked.{Checked}
use Rattle.px_effects.specs.Run.{Ask}
use Rattle.px_mean.specs.Run.{Frame as SourceFrame, Here as SourceHere}
use Rattle.px_mean.specs.Expressions.{Calls as SourceCalls}
use Rattle.px_normal.specs.declared.ty.Ty.{Ty}
use Rattle.px_normal.specs.declared.word.Operand.{Operand}
use Rattle.px_normal.specs.declared.word.Operand.TheVariants.{Slot}
use Rattle.px_normal.specs.declared.word.Word.TheVariants as w
use Rattle.px_normal.specs.declared.method.Tree.{Tree}
use Rattle.px_normal.specs.declared.method.Tree.TheVariants.{Do}
use Rattle.px_normal.specs.declared.node.Counter.{Counter}
use Rattle.px_normal.specs.declared.node.Counter.TheVariants.{Completed}
use Rattle.px_normal.specs.declared.code.Code.{Code}
use Rattle.px_normal.specs.Run.{Frame}
use Rattle.px_normal.specs.Words.{operand}
use Rattle.px_normal.specs.CodeRun.{Calls, body_run}
use Rattle.px_lowering.specs.declared.draft.Draft.{Draft}
use Rattle.px_lowering.specs.declared.valued.Step.{Step}
use Rattle.px_lowering.specs.declared.valued.Step.TheVariants as step
use Rattle.px_lowering.specs.declared.valued.Had.{Had}
use Rattle.px_lowering.specs.declared.valued.Had.TheVariants.{Held, Chosen, Made}
use Rattle.px_lowering.specs.Emit.{Lasted, Operated, emitted, writes, operated, operand_of, slotted, slot_of}
use Rattle.px_lowering.specs.Statements.{without_result, unused as unused_low}
use Rattle.px_preservation.proofs.Meets.{Meets, meets_at, meets_bind, meets_more, meets_tail}
use Rattle.px_preservation.proofs.Runs.{run_append}
use Rattle.px_preservation.proofs.Afters.{behind, grown, one_more, after_none, wrote_slot, wrote_above, wrote_none}
use Rattle.px_preservation.proofs.Words.{word_meets, step_source, step_ends}
use Rattle.px_preservation.proofs.Agree.{Agree, After, Wrote, Shares, into, unused, IsBelow, IsStepBelow, IsHadBelow, CallsMeet, ComesTo, Ends, HadMeets, IsLowered}

module _ (Q W : Type 0) (ask : Ask Q W) (P : Checked) (code : Code) (source_calls : SourceCalls Q W) (calls : Calls Q W) (n : ℕ) where
  -- behind a draft, a value is had as an operand
  pub record IsOperand (r : SourceHere Q W Value) (o : Draft) (x : Operated) : Type 0 where
    pub trees : List Tree
    pub temps : List Ty
    pub trees_are : x.out.trees ≡ o.trees ++ trees
    pub slots_are : x.out.slots ≡ o.slots ++ temps
    pub method_is : x.out.method ≡ o.method
    pub below : IsBelow (length x.out.slots) x.operand
    pub meets : ComesTo Q W ask P code source_calls calls n (length o.slots) (length x.out.slots) r trees x.operand

  -- behind a draft, a value is in a slot
  pub record IsSlotted (r : SourceHere Q W Value) (slot : ℕ) (o o' : Draft) : Type 0 where
    pub trees : List Tree
    pub temps : List Ty
    pub trees_are : o'.trees ≡ o.trees ++ trees
    pub slots_are : o'.slots ≡ o.slots ++ temps
    pub method_is : o'.method ≡ o.method
    pub meets : (s : SourceFrame W) (c : Frame W) → Agree W n s c → length o'.slots ≤ length c.locals
        → Meets (r s) (body_run code ask calls trees c) (λ v s' f c'. (f ≡ Goes) × Wrote W (length o.slots) (Some slot) v s s' c c') (Shares W)

  -- behind a draft, a value isn't used
  pub record IsUnused (r : SourceHere Q W Value) (o o' : Draft) : Type 0 where
    pub trees : List Tree
    pub temps : List Ty
    pub trees_are : o'.trees ≡ o.trees ++ trees
    pub slots_are : o'.slots ≡ o.slots ++ temps
    pub method_is : o'.method ≡ o.method
    pub meets : (s : SourceFrame W) (c : Frame W) → Agree W n s c → length o'.slots ≤ length c.locals
        → Meets (r s) (body_run code ask calls trees c) (λ v s' f c'. (f ≡ Goes) × After W (length o.slots) s s' c c') (Shares W)

  abbrev run : List Tree → Frame W → Outcome Q (Frame W) (Flow Value)
  run = body_run code ask calls

  abbrev Lowered : SourceHere Q W Value → Draft → Lasted → Type 0
  Lowered = IsLowered Q W ask P code source_calls calls n

  -- ---- an operand, and then the rest

  pub then_operand : {A : Type 0} (low high : ℕ) (r : SourceHere Q W Value) (ts : List Tree) (a : Operand) → ComesTo Q W ask P code source_calls calls n low high r ts a → (g : Value → SourceHere Q W A) (rest : List Tree) (R : A → SourceFrame W → Flow Value → Frame W → Type 0) (s : SourceFrame W) (c : Frame W) → Agree W n s c → high ≤ length c.locals → ((s1 : SourceFrame W) (c1 : Frame W) → After W low s s1 c c1 → Meets (g (operand c1.locals a) s1) (run rest c1) R (Shares W)) → Meets (then_run (r s) g) (run (ts ++ rest) c) R (Shares W)
  then_operand low high r ts a m g rest R s c ag l go =
      meets_at _ _ (then_run (run ts c) (goes_on (run rest))) R (Shares W) (run_append Q W code ask calls ts rest c)
      (meets_bind (r s) (run ts c) (λ v s' f c'. (f ≡ Goes) × After W low s s' c c' × (operand c'.locals a ≡ v)) (Shares W) g (goes_on (run rest)) R (Shares W) (m s c ag l)
      (λ v s1 f c1 q. meets_at _ _ (run rest c1) R (Shares W) (ap (λ z. goes_on (run rest) z c1) q.0) (subst (λ x. Meets (g x s1) (run rest c1) R (Shares W)) q.2 (go s1 c1 q.1)))
      (λ s' c' q. q))

  -- an operand, of which the value stays as it is
  pub last_operand : (low high : ℕ) (r : SourceHere Q W Value) (ts : List Tree) (a : Operand) → ComesTo Q W ask P code source_calls calls n low high r ts a → (rest : List Tree) (R : Value → SourceFrame W → Flow Value → Frame W → Type 0) (s : SourceFrame W) (c : Frame W) → Agree W n s c → high ≤ length c.locals → ((s1 : SourceFrame W) (c1 : Frame W) → After W low s s1 c c1 → Meets (Gives (operand c1.locals a) s1) (run rest c1) R (Shares W)) → Meets (r s) (run (ts ++ rest) c) R (Shares W)
  last_operand low high r ts a m rest R s c ag l go =
      meets_at _ _ (then_run (run ts c) (goes_on (run rest))) R (Shares W) (run_append Q W code ask calls ts rest c)
      (meets_tail (r s) (run ts c) (λ v s' f c'. (f ≡ Goes) × After W low s s' c c' × (operand c'.locals a ≡ v)) (Shares W) (goes_on (run rest)) R (Shares W) (m s c ag l)
      (λ v s1 f c1 q. meets_at _ _ (run rest c1) R (Shares W) (ap (λ z. goes_on (run rest) z c1) q.0) (subst (λ x. Meets (Gives x s1) (run rest c1) R (Shares W)) q.2 (go s1 c1 q.1)))
      (λ s' c' q. q))

  -- ---- from what is lowered

  -- its last statement, with a slot or without
  pub ended : (r : SourceHere Q W Value) (low high : ℕ) (ts : List Tree) (x : Step) → Ends Q W ask P code source_calls calls n low high r ts x → (node k : ℕ) → low ≤ k → (s : SourceFrame W) (c : Frame W) → Agree W n s c → high ≤ length c.locals → k < length c.locals → Meets (r s) (run (ts ++ Do node (writes x k) ∷ []) c) (λ v s' f c'. (f ≡ Goes) × After W low s s' c c' × (operand c'.locals (Slot k) ≡ v)) (Shares W)
  ended r low high ts x m node k l s c ag h b =
      meets_more (r s) (run (ts ++ Do node (writes x k) ∷ []) c) (λ v s' f c'. (f ≡ Goes) × Wrote W low (Some k) v s s' c c') (Shares W) (λ v s' f c'. (f ≡ Goes) × After W low s s' c c' × (operand c'.locals (Slot k) ≡ v)) (Shares W) (m node (Some k) (writes x k) (into x k) s c ag h)
      (λ v s' f c' q. (q.0, wrote_above W low k v s s' c c' l q.1, ap (λ (u : Option Value). unwrap_or u Null) (q.1.written k refl b)))
      (λ s' c' q. q)

  operated_by : (r : SourceHere Q W Value) (o out : Draft) (token : ℕ) (had : Had) (trees : List Tree) (temps : List Ty) → out.trees ≡ o.trees ++ trees → out.slots ≡ o.slots ++ temps → out.method ≡ o.method → IsHadBelow (length out.slots) had → HadMeets Q W ask P code source_calls calls n (length o.slots) (length out.slots) r trees had → IsOperand r o (operated P token had out)
  operated_by r o out token (Held a) trees temps e f g b m = record { trees = trees; temps = temps; trees_are = e; slots_are = f; method_is = g; below = b; meets = m }
  operated_by r o out token (Chosen slot) trees temps e f g b m = record { trees = trees; temps = temps; trees_are = e; slots_are = f; method_is = g; below = b; meets = m }
  operated_by r o out token (Made x t counter) trees temps e f g b m =
      let node = length out.nodes + 1 in
      let k = length out.slots in
      record {
        trees = trees ++ Do node (writes x k) ∷ [];
        temps = temps ++ t ∷ [];
        trees_are = behind o.trees out.trees (out.trees ++ Do node (writes x k) ∷ []) trees (Do node (writes x k) ∷ []) e refl;
        slots_are = behind o.slots out.slots (out.slots ++ t ∷ []) temps (t ∷ []) f refl;
        method_is = g;
        below = one_more out.slots t;
        meets = λ s c ag l.
            let u = one_more out.slots t in
            ended r (length o.slots) k trees x m node k (grown o.slots out.slots temps f) s c ag (omega (arith, u, l)) (omega (arith, u, l));
      }

  pub operand_is : (r : SourceHere Q W Value) (o : Draft) (l : Lasted) → Lowered r o l → IsOperand r o (operand_of P l)
  operand_is r o l h = operated_by r o l.out l.value.token l.value.had h.trees h.temps h.trees_are h.slots_are h.method_is h.below h.meets

  pub operand_unused : (r : SourceHere Q W Value) (o : Draft) (x : Operated) → IsOperand r o x → IsUnused r o x.out
  operand_unused r o x h = record {
    trees = h.trees;
    temps = h.temps;
    trees_are = h.trees_are;
    slots_are = h.slots_are;
    method_is = h.method_is;
    meets = λ s c ag l. meets_more (r s) (run h.trees c) (λ v s' f c'. (f ≡ Goes) × After W (length o.slots) s s' c c' × (operand c'.locals x.operand ≡ v)) (Shares W) (λ v s' f c'. (f ≡ Goes) × After W (length o.slots) s s' c c') (Shares W) (h.meets s c ag l) (λ v s' f c' q. (q.0, q.1)) (λ s' c' q. q);
  }

  -- a call whose result isn't used
  unused_by : (r : SourceHere Q W Value) (o out : Draft) (token : ℕ) (had : Had) (trees : List Tree) (temps : List Ty) → out.trees ≡ o.trees ++ trees → out.slots ≡ o.slots ++ temps → out.method ≡ o.method → HadMeets Q W ask P code source_calls calls n (length o.slots) (length out.slots) r trees had → IsUnused r o (operated P token had out).out → IsUnused r o (without_result P token had out)
  unused_by r o out token (Held a) trees temps e f g m h = h
  unused_by r o out token (Chosen slot) trees temps e f g m h = h
  unused_by r o out token (Made (step.Op p a b) t counter) trees temps e f g m h = h
  unused_by r o out token (Made (step.Get a class field) t counter) trees temps e f g m h = h
  unused_by r o out token (Made (step.Load a i) t counter) trees temps e f g m h = h
  unused_by r o out token (Made (step.Len a) t counter) trees temps e f g m h = h
  unused_by r o out token (Made (step.New class site) t counter) trees temps e f g m h = h
  unused_by r o out token (Made (step.Array element k site) t counter) trees temps e f g m h = h
  unused_by r o out token (Made (step.Query statement site params) t counter) trees temps e f g m h = h
  unused_by r o out token (Made (step.Update statement params) t counter) trees temps e f g m h = h
  unused_by r o out token (Made (step.Next a) t counter) trees temps e f g m h = h
  unused_by r o out token (Made (step.Long a i) t counter) trees temps e f g m h = h
  unused_by r o out token (Made (step.Text a i) t counter) trees temps e f g m h = h
  unused_by r o out token (Made (step.Call of method args) t counter) trees temps e f g m h =
      let node = length out.nodes + 1 in
      let word = w.Call None of method args in
      record {
        trees = trees ++ Do node word ∷ [];
        temps = temps;
        trees_are = behind o.trees out.trees (out.trees ++ Do node word ∷ []) trees (Do node word ∷ []) e refl;
        slots_are = f;
        method_is = g;
        meets = λ s c ag l. meets_more (r s) (run (trees ++ Do node word ∷ []) c) (λ v s' z c'. (z ≡ Goes) × Wrote W (length o.slots) None v s s' c c') (Shares W) (λ v s' z c'. (z ≡ Goes) × After W (length o.slots) s s' c c') (Shares W) (m node None word (unused of method args) s c ag l) (λ v s' z c' q. (q.0, wrote_none W (length o.slots) v s s' c c' q.1)) (λ s' c' q. q);
      }

  pub unused_is : (r : SourceHere Q W Value) (o : Draft) (l : Lasted) (b : Bool) → Lowered r o l → IsUnused r o (unused_low P b l)
  unused_is r o l true h = unused_by r o l.out l.value.token l.value.had h.trees h.temps h.trees_are h.slots_are h.method_is h.meets (operand_unused r o (operand_of P l) (operand_is r o l h))
  unused_is r o l false h = operand_unused r o (operand_of P l) (operand_is r o l h)

  -- ---- into a slot

  module _ (met : CallsMeet Q W ask P code source_calls calls n) where
    -- a copy
    pub set_meets : (low node slot : ℕ) (a : Operand) (s s1 : SourceFrame W) (c c1 : Frame W) → After W low s s1 c c1 → Meets (Gives (operand c1.locals a) s1) (run (Do node (w.Set slot a) ∷ []) c1) (λ v s' f c'. (f ≡ Goes) × Wrote W low (Some slot) v s s' c c') (Shares W)
    set_meets low node slot a s s1 c c1 h =
        meets_more _ _ _ (Shares W) (λ v s' f c'. (f ≡ Goes) × Wrote W low (Some slot) v s s' c c') (Shares W) (word_meets Q W ask P code source_calls calls n met node (w.Set slot a) s1 c1 refl h.shared)
        (λ v s' f c' q. (q.0, wrote_slot W low (Some slot) v s s1 s' c c1 c' h q.1 q.2 q.3)) (λ s' c' q. q)

    copied : (r : SourceHere Q W Value) (o out : Draft) (slot for id : ℕ) (a : Operand) (trees : List Tree) (temps : List Ty) → out.trees ≡ o.trees ++ trees → out.slots ≡ o.slots ++ temps → out.method ≡ o.method → ComesTo Q W ask P code source_calls calls n (length o.slots) (length out.slots) r trees a → IsSlotted r slot o (emitted P (w.Set slot a) for (Completed id) out)
    copied r o out slot for id a trees temps e f g m =
        let node = length out.nodes + 1 in
        record {
          trees = trees ++ Do node (w.Set slot a) ∷ [];
          temps = temps;
          trees_are = behind o.trees out.trees (out.trees ++ Do node (w.Set slot a) ∷ []) trees (Do node (w.Set slot a) ∷ []) e refl;
          slots_are = f;
          method_is = g;
          meets = λ s c ag l. last_operand (length o.slots) (length out.slots) r trees a m (Do node (w.Set slot a) ∷ []) (λ v s' z c'. (z ≡ Goes) × Wrote W (length o.slots) (Some slot) v s s' c c') s c ag l (λ s1 c1 h. set_meets (length o.slots) node slot a s s1 c c1 h);
        }

    slotted_by : (r : SourceHere Q W Value) (o out : Draft) (slot for id token : ℕ) (had : Had) (trees : List Tree) (temps : List Ty) → out.trees ≡ o.trees ++ trees → out.slots ≡ o.slots ++ temps → out.method ≡ o.method → HadMeets Q W ask P code source_calls calls n (length o.slots) (length out.slots) r trees had → IsSlotted r slot o (slotted P slot for id token had out)
    slotted_by r o out slot for id token (Held a) trees temps e f g m = copied r o out slot for id a trees temps e f g m
    slotted_by r o out slot for id token (Chosen from) trees temps e f g m = copied r o out slot for id (Slot from) trees temps e f g m
    slotted_by r o out slot for id token (Made x t counter) trees temps e f g m =
        let node = length out.nodes + 1 in
        record {
          trees = trees ++ Do node (writes x slot) ∷ [];
          temps = temps;
          trees_are = behind o.trees out.trees (out.trees ++ Do node (writes x slot) ∷ []) trees (Do node (writes x slot) ∷ []) e refl;
          slots_are = f;
          method_is = g;
          meets = λ s c ag l. m node (Some slot) (writes x slot) (into x slot) s c ag l;
        }

    pub slotted_is : (r : SourceHere Q W Value) (o : Draft) (l : Lasted) (slot for : ℕ) → Lowered r o l → IsSlotted r slot o (slot_of P slot for l)
    slotted_is r o l slot for h = slotted_by r o l.out slot for l.value.id l.value.token l.value.had h.trees h.temps h.trees_are h.slots_are h.method_is h.meets

    -- ---- operands, and a last statement

    -- none
    pub made_none : (o : Draft) (f : SourceHere Q W Value) (x : Step) (t : Ty) (counter : Counter) (id token : ℕ) → n ≤ length o.slots → IsStepBelow (length o.slots) x → ((s : SourceFrame W) (c : Frame W) → Agree W n s c → f s ≡ on_shared (step_source Q W ask P code source_calls calls n met x c.locals) s) → Lowered f o (record { out = o; value = record { id = id; token = token; had = Made x t counter } })
    made_none o f x t counter id token le b e = record {
      trees = [];
      temps = [];
      trees_are = sym (append-nil o.trees);
      slots_are = sym (append-nil o.slots);
      method_is = refl;
      below = b;
      above = tt;
      meets = λ node to word end s c ag l. step_ends Q W ask P code source_calls calls n met (length o.slots) node x to word end f s s c c (after_none W (length o.slots) s c ag.shared) (e s c ag);
    }

    pub made_one : (r : SourceHere Q W Value) (o : Draft) (a : Operated) → IsOperand r o a → (f : Value → SourceHere Q W Value) (x : Step) (t : Ty) (counter : Counter) (id token : ℕ) → IsStepBelow (length a.out.slots) x → ((s : SourceFrame W) (c : Frame W) → f (operand c.locals a.operand) s ≡ on_shared (step_source Q W ask P code source_calls calls n met x c.locals) s) → Lowered (r >>= f) o (record { out = a.out; value = record { id = id; token = token; had = Made x t counter } })
    made_one r o a h f x t counter id token b e = record {
      trees = h.trees;
      temps = h.temps;
      trees_are = h.trees_are;
      slots_are = h.slots_are;
      method_is = h.method_is;
      below = b;
      above = tt;
      meets = λ node to word end s c ag l. then_operand (length o.slots) (length a.out.slots) r h.trees a.operand h.meets f (Do node word ∷ []) (λ v s' z c'. (z ≡ Goes) × Wrote W (length o.slots) to v s s' c c') s c ag l (λ s1 c1 q. step_ends Q W ask P code source_calls calls n met (length o.slots) node x to word end (f (operand c1.locals a.operand)) s s1 c c1 q (e s1 c1));
    }
