-- One statement of the code runs once, beside what marks nothing of its own, or beside a call.
use Rattle.std.proofs.Common.{◌≡◌, ℕ, ◌+◌, nat_lt, Bool, true, false, if◌then◌else◌, List, [], ◌∷◌, Option, Ok, Err, refl, sym, ap, ◌∙◌, subst, arith}
use Rattle.px_value.specs.declared.value.Value.{Value}
use Rattle.px_value.specs.declared.value.Value.TheVariants.{Int, Long, Bool as Truth, Text, Null, Ref}
use Rattle.px_value.specs.declared.thrown.Thrown.{Thrown}
use Rattle.px_value.specs.declared.thrown.Thrown.TheVariants.{TurnsOut}
use Rattle.px_value.specs.declared.statement.TableOp.{TableOp}
use Rattle.px_value.specs.declared.answer.Answer.{Answer}
use Rattle.px_value.specs.Operators.{Applied}
use Rattle.px_value.specs.Outcome.{Outcome, Gives, Throws, Asks, then_run, ◌>>=◌, pure, beside, on_shared, Flow}
use Rattle.px_effects.specs.Run.{Shared, Ask, in_world, turn, max_turns}
use Rattle.px_effects.specs.Act.{Act, Acted, acted, Landed, landed}
use Rattle.px_effects.specs.Cells.{first_cells}
use Rattle.px_effects.specs.Operations.{Work, Acts, Operates, told, Said, Answers, Out, with_said, counted, max_operations}
use Rattle.px_mean.specs.Run.{Frame as SourceFrame, Here as SourceHere}
use Rattle.px_mean.specs.Expressions.{Calls as SourceCalls, call_method, result_value}
use Rattle.px_normal.specs.declared.node.Counter.{Counter}
use Rattle.px_normal.specs.declared.word.Operand.{Operand}
use Rattle.px_normal.specs.declared.word.Word.{Word}
use Rattle.px_normal.specs.declared.word.Word.TheVariants as w
use Rattle.px_normal.specs.declared.method.Tree.TheVariants.{Do}
use Rattle.px_normal.specs.declared.code.Code.{Code}
use Rattle.px_normal.specs.First.{Slots, fresh_of}
use Rattle.px_normal.specs.Run.{Ran, Traced, Frame, with_ran, on_traced, noted}
use Rattle.px_normal.specs.Words.{Does, Works, Invokes, operand, operands, invokes_on, does_of, answer_of, to_of}
use Rattle.px_normal.specs.CodeRun.{Calls, ended, after_act, act_run, work_run, comes_back, does_run, word_run, body_run}
use Rattle.px_lowering.specs.declared.valued.Step.{Step}
use Rattle.px_lowering.specs.declared.valued.Step.TheVariants as step
use Rattle.px_preservation.proofs.Runs.{run_do, run_one}
use Rattle.px_preservation.proofs.Agree.{Finishes, into, unused}
use Rattle.px_counts.specs.Marks.{Mark, Marked, times, unmarked_state}
use Rattle.px_counted.specs.Laws.{mark_of, runs_of, NeverThrows}
use Rattle.px_counted.proofs.Counts.{IsBehind, AreBehind, Counted, hits, more_runs}
use Rattle.px_counted.proofs.Keeps.{MarksHere, KeepsHere}

-- ---- questions are never thrown

module _ (Q W : Type 0) (ask : Ask Q W) (never : NeverThrows Q W ask) where
  asked_never : (o : TableOp) (w : W) (x : Outcome Q W Answer) (s s' : Shared W) (t : Thrown) → ask o w ≡ x → then_run (in_world s x) (λ answer. pure (Answers answer)) ≡ Throws t s' → ⊥
  asked_never o w (Gives a w') s s' t e h = absurd (cc h)
  asked_never o w (Throws u w') s s' t e h = never o w w' u e
  asked_never o w (Asks q w') s s' t e h = absurd (cc h)

  told_case : (o : TableOp) (b : Bool) (s s' : Shared W) (t : Thrown) → (if b then then_run (in_world (counted s) (ask o s.world)) (λ answer. pure (Answers answer)) else Gives Out s) ≡ Throws t s' → ⊥
  told_case o true s s' t h = asked_never o s.world (ask o s.world) (counted s) s' t refl h
  told_case o false s s' t h = absurd (cc h)

  pub told_never : (o : TableOp) (s s' : Shared W) (t : Thrown) → told ask o s ≡ Throws t s' → ⊥
  told_never o s s' t h = told_case o (nat_lt s.operations max_operations) s s' t h

-- ---- what a statement notes

module _ (Q W : Type 0) (ask : Ask Q W) (code : Code) (calls : Calls Q W) (k : ℕ) (counter : Counter) where
  -- one more run of this node was noted
  abbrev pub NotesOnce : ℕ → Outcome Q (Frame W) (Flow Value) → List Ran → Type 0
  NotesOnce node (Gives f c) rs = runs_of k c.shared.ran ≡ runs_of k rs + hits Q W k counter node
  NotesOnce node (Throws t c) rs = runs_of k c.shared.ran ≡ runs_of k rs + hits Q W k counter node
  NotesOnce node (Asks q c) rs = Unit {0}

  ended_notes : (node : ℕ) (word : Word) (slots : Slots) (a : Acted) (l : Landed) (g : Traced W) (v : Applied) → NotesOnce node (ended word slots (after_act node a l g) v) g.ran
  ended_notes node word slots a l g (Ok v) = more_runs k (record { node = node; reads = a.reads; writes = a.writes }) g.ran
  ended_notes node word slots a l g (Err t) = more_runs k (record { node = node; reads = a.reads; writes = a.writes }) g.ran

  act_notes : (node : ℕ) (word : Word) (act : Act) (c : Frame W) → NotesOnce node (act_run code node word act c) c.shared.ran
  act_notes node word act c =
      let a = acted (first_cells (fresh_of code)) act c.shared.shared.heap in
      let l = landed c.shared.shared.prints a.ends in
      ended_notes node word c.locals a l c.shared l.value

  module _ (never : NeverThrows Q W ask) where
    said_notes : (node : ℕ) (word : Word) (o : TableOp) (c : Frame W) (x : Outcome Q (Shared W) Said) → told ask o c.shared.shared ≡ x
        → NotesOnce node (then_run (beside c.locals (with_ran c.shared.ran x)) (λ said. act_run code node word (with_said (answer_of word) said))) c.shared.ran
    said_notes node word o c (Gives said s) e = act_notes node word (with_said (answer_of word) said) (record { locals = c.locals; shared = record { shared = s; ran = c.shared.ran } })
    said_notes node word o c (Throws t s) e = absurd (told_never Q W ask never o c.shared.shared s t e)
    said_notes node word o c (Asks q s) e = tt

    pub work_notes : (node : ℕ) (word : Word) (work : Work) (c : Frame W) → NotesOnce node (work_run code ask node word work c) c.shared.ran
    work_notes node word (Acts act) c = act_notes node word act c
    work_notes node word (Operates o) c = said_notes node word o c (told ask o c.shared.shared) refl

    -- a statement with work of its own
    abbrev pub IsWork : Does → Type 0
    IsWork (Works work) = Unit {0}
    IsWork (Invokes method values) = ⊥

    does_notes : (node : ℕ) (word : Word) (d : Does) (c : Frame W) → IsWork d → NotesOnce node (does_run code ask calls node word d c) c.shared.ran
    does_notes node word (Works work) c h = work_notes node word work c
    does_notes node word (Invokes method values) c h = absurd h

    run_alone : (node : ℕ) (word : Word) (c : Frame W) → body_run code ask calls (Do node word ∷ []) c ≡ word_run code ask calls node word c
    run_alone node word c = run_one Q W code ask calls (Do node word) c ∙ (λ i. run_do Q W code ask calls node word i c)

    pub word_notes : (node : ℕ) (word : Word) (c : Frame W) → IsWork (does_of code word c.locals) → NotesOnce node (body_run code ask calls (Do node word ∷ []) c) c.shared.ran
    word_notes node word c h = subst (λ (p : Outcome Q (Frame W) (Flow Value)). NotesOnce node p c.shared.ran) (sym (run_alone node word c)) (does_notes node word (does_of code word c.locals) c h)

    -- ---- beside the source

    once_counted : (A : Type 0) (node : ℕ) (o : Outcome Q (SourceFrame (Marked W)) A) (p : Outcome Q (Frame W) (Flow Value)) (ms : List Mark) (rs : List Ran) → MarksHere Q W A o ms → NotesOnce node p rs → runs_of k rs + hits Q W k counter node ≡ times (mark_of counter) ms → Counted Q W k counter 0 o p
    once_counted A node (Gives a s) (Gives f c) ms rs h j e = let x = ap (times (mark_of counter)) h in omega (arith, x, j, e)
    once_counted A node (Gives a s) (Throws t c) ms rs h j e = tt
    once_counted A node (Gives a s) (Asks q c) ms rs h j e = tt
    once_counted A node (Throws t s) (Gives f c) ms rs h j e = tt
    once_counted A node (Throws t s) (Throws u c) ms rs h j e = let x = ap (times (mark_of counter)) h in omega (arith, x, j, e)
    once_counted A node (Throws t s) (Asks q c) ms rs h j e = tt
    once_counted A node (Asks q s) p ms rs h j e = tt

    -- a statement that isn't a call, beside what marks nothing
    pub word_counted : (A : Type 0) (node : ℕ) (word : Word) (r : SourceHere Q (Marked W) A) (s : SourceFrame (Marked W)) (c : Frame W) → KeepsHere Q W A r → IsWork (does_of code word c.locals) → AreBehind Q W k counter (hits Q W k counter node) s c
        → Counted Q W k counter 0 (r s) (body_run code ask calls (Do node word ∷ []) c)
    word_counted A node word r s c keeps work h = once_counted A node (r s) _ s.shared.world.marks c.shared.ran (keeps.at s) (word_notes node word c work) h

    gives_counted : (A : Type 0) (node e : ℕ) (v : A) (s : SourceFrame (Marked W)) (p : Outcome Q (Frame W) (Flow Value)) (rs : List Ran) → NotesOnce node p rs → runs_of k rs + (hits Q W k counter node + e) ≡ times (mark_of counter) s.shared.world.marks → Counted Q W k counter e (Gives v s) p
    gives_counted A node e v s (Gives f c) rs j h = omega (arith, j, h)
    gives_counted A node e v s (Throws t c) rs j h = tt
    gives_counted A node e v s (Asks q c) rs j h = tt

    -- beside what only comes to a value
    pub word_gives : (A : Type 0) (node e : ℕ) (word : Word) (v : A) (s : SourceFrame (Marked W)) (c : Frame W) → IsWork (does_of code word c.locals) → AreBehind Q W k counter (hits Q W k counter node + e) s c → Counted Q W k counter e (Gives v s) (body_run code ask calls (Do node word ∷ []) c)
    word_gives A node e word v s c work h = gives_counted A node e v s _ c.shared.ran (word_notes node word c work) h

    -- the last statement of an expression, unless it is a call
    abbrev pub IsNoCall : Step → Type 0
    IsNoCall (step.Call of method args) = ⊥
    IsNoCall _ = Unit {0}

    pub step_works : (x : Step) (to : Option ℕ) (word : Word) → Finishes x to word → IsNoCall x → (slots : Slots) → IsWork (does_of code word slots)
    step_works x to word (into (step.Op o a b) n) h slots = tt
    step_works x to word (into (step.Get a class field) n) h slots = tt
    step_works x to word (into (step.Load a i) n) h slots = tt
    step_works x to word (into (step.Len a) n) h slots = tt
    step_works x to word (into (step.New class site) n) h slots = tt
    step_works x to word (into (step.Array element m site) n) h slots = tt
    step_works x to word (into (step.Call a method args) n) h slots = absurd h
    step_works x to word (into (step.Query statement site params) n) h slots = tt
    step_works x to word (into (step.Update statement params) n) h slots = tt
    step_works x to word (into (step.Next a) n) h slots = tt
    step_works x to word (into (step.Long a i) n) h slots = tt
    step_works x to word (into (step.Text a i) n) h slots = tt
    step_works x to word (unused a method args) h slots = absurd h

    -- ---- calls

    abbrev pub CountedThere : {A B : Type 0} → ℕ → Outcome Q (Shared (Marked W)) A → Outcome Q (Traced W) B → Type 0
    CountedThere n (Gives a s) (Gives b g) = IsBehind Q W k counter n s g
    CountedThere n (Throws t s) (Throws u g) = IsBehind Q W k counter 0 s g
    CountedThere n _ _ = Unit {0}

    module _ (marked_calls : SourceCalls Q (Marked W)) where
      -- calls of methods leave nothing behind
      abbrev pub CallsCount : Type 0
      CallsCount = (method : ℕ) (values : List Value) (s : Shared (Marked W)) (g : Traced W) → unmarked_state s ≡ g.shared → IsBehind Q W k counter 0 s g → CountedThere 0 (marked_calls method values s) (calls method values g)

      module _ (count : CallsCount) where
        back : (here : List Value) (to : Option ℕ) (slots : Slots) (o : Outcome Q (Shared (Marked W)) (Option Value)) (p : Outcome Q (Traced W) (Option Value)) → CountedThere 0 o p → Counted Q W k counter 0 (then_run (beside here o) result_value) (comes_back to slots p)
        back here to slots (Gives a s) (Gives b g) h = h
        back here to slots (Gives a s) (Throws t g) h = tt
        back here to slots (Gives a s) (Asks q g) h = tt
        back here to slots (Throws t s) (Gives b g) h = tt
        back here to slots (Throws t s) (Throws u g) h = h
        back here to slots (Throws t s) (Asks q g) h = tt
        back here to slots (Asks q s) p h = tt

        turned : (b : Bool) (method : ℕ) (values : List Value) (s : Shared (Marked W)) (g : Traced W) → unmarked_state s ≡ g.shared → IsBehind Q W k counter 0 s g
            → CountedThere 0 (then_run (if b then Gives (tt {0}) (record s { turns = s.turns + 1 }) else Throws TurnsOut s) (λ u. marked_calls method values)) (then_run (with_ran g.ran (if b then Gives (tt {0}) (record g.shared { turns = g.shared.turns + 1 }) else Throws TurnsOut g.shared)) (λ u. calls method values))
        turned true method values s g e h = count method values (record s { turns = s.turns + 1 }) (record { shared = record g.shared { turns = g.shared.turns + 1 }; ran = g.ran }) (ap (λ (x : Shared W). record x { turns = x.turns + 1 }) e) h
        turned false method values s g e h = h

        same_turns : (method : ℕ) (values : List Value) (s : Shared (Marked W)) (g : Traced W) → unmarked_state s ≡ g.shared → IsBehind Q W k counter 0 s g → CountedThere 0 (then_run (turn s) (λ u. marked_calls method values)) (then_run (on_traced turn g) (λ u. calls method values))
        same_turns method values s g e h = subst (λ (n : ℕ). CountedThere 0 (then_run (if nat_lt n max_turns then Gives (tt {0}) (record s { turns = s.turns + 1 }) else Throws TurnsOut s) (λ u. marked_calls method values)) (then_run (on_traced turn g) (λ u. calls method values))) (sym (ap (λ (x : Shared W). x.turns) e)) (turned (nat_lt g.shared.turns max_turns) method values s g e h)

        abbrev hit : ℕ → ℕ
        hit node = hits Q W k counter node

        noted_zero : (node : ℕ) (s : Shared (Marked W)) (g : Traced W) → IsBehind Q W k counter (hit node) s g → IsBehind Q W k counter 0 s (noted node [] [] g)
        noted_zero node s g h = let x = more_runs k (record { node = node; reads = []; writes = [] }) g.ran in omega (arith, x, h)

        abbrev SourceCall : ℕ → List Value → SourceHere Q (Marked W) Value
        SourceCall method values = on_shared (call_method marked_calls method values) >>= result_value

        refused : (node : ℕ) (word : Word) (method : ℕ) (v : Value) (vs : List Value) (s : SourceFrame (Marked W)) (c : Frame W) → IsWork (invokes_on v method vs) → MarksHere Q W Value (SourceCall method (v ∷ vs) s) s.shared.world.marks → AreBehind Q W k counter (hit node) s c → Counted Q W k counter 0 (SourceCall method (v ∷ vs) s) (does_run code ask calls node word (invokes_on v method vs) c)
        refused node word method v vs s c work keeps h = once_counted Value node (SourceCall method (v ∷ vs) s) _ s.shared.world.marks c.shared.ran keeps (does_notes node word (invokes_on v method vs) c work) h

        invoked : (node : ℕ) (word : Word) (method : ℕ) (v : Value) (vs : List Value) (s : SourceFrame (Marked W)) (c : Frame W) → unmarked_state s.shared ≡ c.shared.shared → AreBehind Q W k counter (hit node) s c → Counted Q W k counter 0 (SourceCall method (v ∷ vs) s) (does_run code ask calls node word (invokes_on v method vs) c)
        invoked node word method (Ref object) vs s c e h = back s.locals (to_of word) c.locals _ _ (same_turns method (Ref object ∷ vs) s.shared (noted node [] [] c.shared) e (noted_zero node s.shared c.shared h))
        invoked node word method (Int n) vs s c e h = refused node word method (Int n) vs s c tt refl h
        invoked node word method (Long n) vs s c e h = refused node word method (Long n) vs s c tt refl h
        invoked node word method (Truth b) vs s c e h = refused node word method (Truth b) vs s c tt refl h
        invoked node word method (Text bytes) vs s c e h = refused node word method (Text bytes) vs s c tt refl h
        invoked node word method Null vs s c e h = refused node word method Null vs s c tt refl h

        -- a call beside the call of the source, of the same values
        pub call_counted : (node : ℕ) (to : Option ℕ) (of : Operand) (method : ℕ) (args : List Operand) (values : List Value) (s : SourceFrame (Marked W)) (c : Frame W) → values ≡ operand c.locals of ∷ operands c.locals args → unmarked_state s.shared ≡ c.shared.shared → AreBehind Q W k counter (hit node) s c
            → Counted Q W k counter 0 ((on_shared (call_method marked_calls method values) >>= result_value) s) (body_run code ask calls (Do node (w.Call to of method args) ∷ []) c)
        call_counted node to of method args values s c same e h =
            subst (λ (vs : List Value). Counted Q W k counter 0 (SourceCall method vs s) (body_run code ask calls (Do node (w.Call to of method args) ∷ []) c)) (sym same)
            (subst (λ (p : Outcome Q (Frame W) (Flow Value)). Counted Q W k counter 0 (SourceCall method (operand c.locals of ∷ operands c.locals args) s) p) (sym (run_alone node (w.Call to of method args) c))
            (invoked node (w.Call to of method args) method (operand c.locals of) (operands c.locals args) s c e h))
