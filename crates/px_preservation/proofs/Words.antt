-- What one statement of the code does beside an act of the source, and what the last statement of an expression does.
use Rattle.std.proofs.Common.{◌≡◌, ℕ, false, List, [], ◌∷◌, Option, Some, None, Ok, Err, unwrap_or, refl, sym, ap, ◌∙◌, subst}
use Rattle.px_value.specs.declared.value.Value.{Value}
use Rattle.px_value.specs.declared.value.Value.TheVariants.{Null}
use Rattle.px_value.specs.declared.answer.Answer.{Answer}
use Rattle.px_value.specs.Operators.{Applied}
use Rattle.px_value.specs.Outcome.{Outcome, Gives, Throws, Asks, then_run, ◌>>=◌, pure, beside, on_shared, Flow, Goes}
use Rattle.px_facts.specs.declared.checked.Checked.{Checked}
use Rattle.px_effects.specs.Run.{Shared, There, Ask, turn}
use Rattle.px_effects.specs.Act.{Act, Comes, Landed, acted, landed, left, settled, does}
use Rattle.px_effects.specs.Act as act
use Rattle.px_effects.specs.Cells.{first_cells}
use Rattle.px_effects.specs.Operations.{Work, Acts, Operates, Said, told, with_said, works}
use Rattle.px_mean.specs.Run.{Frame as SourceFrame, Here as SourceHere}
use Rattle.px_mean.specs.Expressions.{Calls as SourceCalls}
use Rattle.px_normal.specs.declared.word.Word.{Word}
use Rattle.px_normal.specs.declared.word.Word.TheVariants as w
use Rattle.px_normal.specs.declared.method.Tree.TheVariants.{Do}
use Rattle.px_normal.specs.declared.code.Code.{Code}
use Rattle.px_normal.specs.First.{Slots, fresh_of}
use Rattle.px_normal.specs.Run.{Traced, Frame, with_ran, noted}
use Rattle.px_normal.specs.Words.{Does, Works, Invokes, does_of, answer_of, to_of, with_slot, is_return, result_of}
use Rattle.px_normal.specs.CodeRun.{Calls, flow_if, ended, after_act, act_run, work_run, call_run, comes_back, does_run, word_run, body_run}
use Rattle.px_lowering.specs.declared.valued.Step.{Step}
use Rattle.px_lowering.specs.declared.valued.Step.TheVariants as step
use Rattle.px_lowering.specs.Emit.{writes}
use Rattle.px_preservation.proofs.Meets.{Meets, meets_at, meets_more}
use Rattle.px_preservation.proofs.Runs.{run_do, run_one}
use Rattle.px_preservation.proofs.Agree.{Shares, After, Wrote, Finishes, into, unused, CallsMeet}
use Rattle.px_preservation.proofs.Afters.{wrote_slot}

module _ (Q W : Type 0) (ask : Ask Q W) (P : Checked) (code : Code) (source_calls : SourceCalls Q W) (calls : Calls Q W) (n : ℕ) where
  -- what a statement does, in the source's frames
  abbrev pub does_source : Does → (Answer → Act) → There Q W Value
  does_source (Works work) f = works (first_cells (fresh_of code)) ask work f
  does_source (Invokes method values) f = turn >>= (λ _. source_calls method values >>= (λ r. pure (unwrap_or r Null)))

  -- ---- acts

  abbrev pub ActDid : Word → List Value → Slots → Value → SourceFrame W → Flow Value → Frame W → Type 0
  ActDid word here slots v s' f c' = (f ≡ flow_if (is_return word) (result_of word v)) × (s'.locals ≡ here) × Shares W s' c' × (c'.locals ≡ with_slot (to_of word) v slots)

  came : (word : Word) (here : List Value) (slots : Slots) (a : Applied) (sh : Shared W) (g : Traced W) → sh ≡ g.shared → Meets (beside {Q = Q} here (act.ended a sh)) (ended word slots g a) (ActDid word here slots) (Shares W)
  came word here slots (Ok v) sh g h = (v, record { locals = here; shared = sh }, refl, (refl, refl, h, refl))
  came word here slots (Err t) sh g h = (record { locals = here; shared = sh }, refl, h)

  settles : (node : ℕ) (word : Word) (here : List Value) (slots : Slots) (g : Traced W) (a : Act) → Meets (beside {Q = Q} here (does (first_cells (fresh_of code)) a g.shared)) (act_run code node word a (record { locals = slots; shared = g })) (ActDid word here slots) (Shares W)
  settles node word here slots g a =
      let x = acted (first_cells (fresh_of code)) a g.shared.heap in
      let l = landed g.shared.prints x.ends in
      came word here slots l.value (left g.shared x l) (after_act node x l g) refl

  -- a statement that acts, beside the act
  pub act_meets : (node : ℕ) (word : Word) (a : Act) (s : SourceFrame W) (c : Frame W) → Shares W s c → Meets (beside {Q = Q} s.locals (does (first_cells (fresh_of code)) a s.shared)) (act_run code node word a c) (ActDid word s.locals c.locals) (Shares W)
  act_meets node word a s c h = subst (λ (z : Shared W). Meets (beside {Q = Q} s.locals (does (first_cells (fresh_of code)) a z)) (act_run code node word a c) (ActDid word s.locals c.locals) (Shares W)) (sym h) (settles node word s.locals c.locals c.shared a)

  -- ---- questions

  said_meets : (node : ℕ) (word : Word) (here : List Value) (c : Frame W) (o : Outcome Q (Shared W) Said) → Meets (beside here (then_run o (λ said. does (first_cells (fresh_of code)) (with_said (answer_of word) said)))) (then_run (beside c.locals (with_ran c.shared.ran o)) (λ said. act_run code node word (with_said (answer_of word) said))) (ActDid word here c.locals) (Shares W)
  said_meets node word here c (Gives said z) = settles node word here c.locals (record { shared = z; ran = c.shared.ran }) (with_said (answer_of word) said)
  said_meets node word here c (Throws t z) = (record { locals = here; shared = z }, refl, refl)
  said_meets node word here c (Asks q z) = (record { locals = here; shared = z }, refl, refl)

  pub work_meets : (node : ℕ) (word : Word) (work : Work) (s : SourceFrame W) (c : Frame W) → Shares W s c → Meets (on_shared (works (first_cells (fresh_of code)) ask work (answer_of word)) s) (work_run code ask node word work c) (ActDid word s.locals c.locals) (Shares W)
  work_meets node word (Acts a) s c h = act_meets node word a s c h
  work_meets node word (Operates o) s c h = subst (λ (z : Shared W). Meets (beside s.locals (then_run (told ask o z) (λ said. does (first_cells (fresh_of code)) (with_said (answer_of word) said)))) (work_run code ask node word (Operates o) c) (ActDid word s.locals c.locals) (Shares W)) (sym h) (said_meets node word s.locals c (told ask o c.shared.shared))

  -- ---- calls

  abbrev pub Did : Option ℕ → List Value → Slots → Value → SourceFrame W → Flow Value → Frame W → Type 0
  Did to here slots v s' f c' = (f ≡ Goes) × (s'.locals ≡ here) × Shares W s' c' × (c'.locals ≡ with_slot to v slots)

  abbrev Called : Outcome Q (Shared W) (Option Value) → Outcome Q (Traced W) (Option Value) → Type 0
  Called o p = Meets o p (λ v s' v' g'. (v' ≡ v) × (s' ≡ g'.shared)) (λ s' g'. s' ≡ g'.shared)

  abbrev valued : Outcome Q (Shared W) (Option Value) → Outcome Q (Shared W) Value
  valued o = then_run o (λ r. pure (unwrap_or r Null))

  back : (to : Option ℕ) (here : List Value) (slots : Slots) (o : Outcome Q (Shared W) (Option Value)) (p : Outcome Q (Traced W) (Option Value)) → Called o p → Meets (beside here (valued o)) (comes_back to slots p) (Did to here slots) (Shares W)
  back to here slots o (Gives b g) m = (unwrap_or m.0 Null, record { locals = here; shared = m.1 }, ap (λ (x : Outcome Q (Shared W) (Option Value)). beside here (valued x)) m.2, (refl, refl, m.3.1, ap (λ (v : Option Value). with_slot to (unwrap_or v Null) slots) m.3.0))
  back to here slots o (Throws t g) m = (record { locals = here; shared = m.0 }, ap (λ (x : Outcome Q (Shared W) (Option Value)). beside here (valued x)) m.1, m.2)
  back to here slots o (Asks q g) m = (record { locals = here; shared = m.0 }, ap (λ (x : Outcome Q (Shared W) (Option Value)). beside here (valued x)) m.1, m.2)

  module _ (met : CallsMeet Q W ask P code source_calls calls n) where
    turned : (to : Option ℕ) (method : ℕ) (values : List Value) (here : List Value) (slots : Slots) (g : Traced W) (o : Outcome Q (Shared W) (Unit {0})) → Meets (beside here (then_run o (λ _. source_calls method values >>= (λ r. pure (unwrap_or r Null))))) (comes_back to slots (then_run (with_ran g.ran o) (λ _. calls method values))) (Did to here slots) (Shares W)
    turned to method values here slots g (Gives u z) = back to here slots (source_calls method values z) (calls method values (record { shared = z; ran = g.ran })) (met method values z (record { shared = z; ran = g.ran }) refl)
    turned to method values here slots g (Throws t z) = (record { locals = here; shared = z }, refl, refl)
    turned to method values here slots g (Asks q z) = (record { locals = here; shared = z }, refl, refl)

    call_meets : (node : ℕ) (word : Word) (method : ℕ) (values : List Value) (s : SourceFrame W) (c : Frame W) (f : Answer → Act) → Shares W s c → Meets (on_shared (does_source (Invokes method values) f) s) (call_run calls node word method values c) (Did (to_of word) s.locals c.locals) (Shares W)
    call_meets node word method values s c f h = subst (λ (z : Shared W). Meets (beside s.locals (then_run (turn z) (λ _. source_calls method values >>= (λ r. pure (unwrap_or r Null))))) (call_run calls node word method values c) (Did (to_of word) s.locals c.locals) (Shares W)) (sym h) (turned (to_of word) method values s.locals c.locals (noted node [] [] c.shared) (turn c.shared.shared))

    -- ---- any word but a return

    does_meets : (node : ℕ) (word : Word) (d : Does) (s : SourceFrame W) (c : Frame W) → is_return word ≡ false → Shares W s c → Meets (on_shared (does_source d (answer_of word)) s) (does_run code ask calls node word d c) (Did (to_of word) s.locals c.locals) (Shares W)
    does_meets node word (Works work) s c e h = meets_more (on_shared (works (first_cells (fresh_of code)) ask work (answer_of word)) s) (work_run code ask node word work c) (ActDid word s.locals c.locals) (Shares W) (Did (to_of word) s.locals c.locals) (Shares W) (work_meets node word work s c h) (λ v s' f c' q. (q.0 ∙ ap (λ b. flow_if b (result_of word v)) e, q.1, q.2, q.3)) (λ s' c' q. q)
    does_meets node word (Invokes method values) s c e h = call_meets node word method values s c (answer_of word) h

    pub word_meets : (node : ℕ) (word : Word) (s : SourceFrame W) (c : Frame W) → is_return word ≡ false → Shares W s c → Meets (on_shared (does_source (does_of code word c.locals) (answer_of word)) s) (body_run code ask calls (Do node word ∷ []) c) (Did (to_of word) s.locals c.locals) (Shares W)
    word_meets node word s c e h = meets_at _ _ (word_run code ask calls node word c) _ _ (run_one Q W code ask calls (Do node word) c ∙ (λ i. run_do Q W code ask calls node word i c)) (does_meets node word (does_of code word c.locals) s c e h)

    -- ---- the last statement of an expression

    -- what it does, in the source's frames
    abbrev pub step_source : Step → Slots → There Q W Value
    step_source x slots = does_source (does_of code (writes x 0) slots) (answer_of (writes x 0))

    pub step_meets : (node : ℕ) (x : Step) (to : Option ℕ) (word : Word) → Finishes x to word → (s : SourceFrame W) (c : Frame W) → Shares W s c → Meets (on_shared (step_source x c.locals) s) (body_run code ask calls (Do node word ∷ []) c) (Did to s.locals c.locals) (Shares W)
    step_meets node x to word (into (step.Op o a b) k) s c h = word_meets node (w.Op o k a b) s c refl h
    step_meets node x to word (into (step.Get a class field) k) s c h = word_meets node (w.Get k a class field) s c refl h
    step_meets node x to word (into (step.Load a i) k) s c h = word_meets node (w.Load k a i) s c refl h
    step_meets node x to word (into (step.Len a) k) s c h = word_meets node (w.Len k a) s c refl h
    step_meets node x to word (into (step.New class site) k) s c h = word_meets node (w.New k class site) s c refl h
    step_meets node x to word (into (step.Array element m site) k) s c h = word_meets node (w.Array k element m site) s c refl h
    step_meets node x to word (into (step.Call a method args) k) s c h = word_meets node (w.Call (Some k) a method args) s c refl h
    step_meets node x to word (into (step.Query statement site params) k) s c h = word_meets node (w.Query k statement site params) s c refl h
    step_meets node x to word (into (step.Update statement params) k) s c h = word_meets node (w.Update k statement params) s c refl h
    step_meets node x to word (into (step.Next a) k) s c h = word_meets node (w.Next k a) s c refl h
    step_meets node x to word (into (step.Long a i) k) s c h = word_meets node (w.Long k a i) s c refl h
    step_meets node x to word (into (step.Text a i) k) s c h = word_meets node (w.Text k a i) s c refl h
    step_meets node x to word (unused a method args) s c h = word_meets node (w.Call None a method args) s c refl h

    -- behind what went before
    pub step_ends : (low node : ℕ) (x : Step) (to : Option ℕ) (word : Word) → Finishes x to word → (r : SourceHere Q W Value) (s s1 : SourceFrame W) (c c1 : Frame W) → After W low s s1 c c1 → r s1 ≡ on_shared (step_source x c1.locals) s1 → Meets (r s1) (body_run code ask calls (Do node word ∷ []) c1) (λ v s' f c'. (f ≡ Goes) × Wrote W low to v s s' c c') (Shares W)
    step_ends low node x to word end r s s1 c c1 a e =
        subst (λ (o : Outcome Q (SourceFrame W) Value). Meets o (body_run code ask calls (Do node word ∷ []) c1) (λ v s' f c'. (f ≡ Goes) × Wrote W low to v s s' c c') (Shares W)) (sym e)
        (meets_more (on_shared (step_source x c1.locals) s1) (body_run code ask calls (Do node word ∷ []) c1) (Did to s1.locals c1.locals) (Shares W) (λ v s' f c'. (f ≡ Goes) × Wrote W low to v s s' c c') (Shares W) (step_meets node x to word end s1 c1 a.shared)
        (λ v s' f c' q. (q.0, wrote_slot W low to v s s1 s' c c1 c' a q.1 q.2 q.3)) (λ s' c' q. q))
