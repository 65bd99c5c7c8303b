-- The one machine keeps each statement, so it runs as the code does.
use Rattle.std.proofs.Common.{◌≡◌, ℕ, suc, ◌+◌, ◌-◌, nat_lt, Bool, true, false, if◌then◌else◌, List, [], ◌∷◌, ◌++◌, length, Option, Some, None, Ok, Err, unwrap_or, slice_get, refl, sym, ap, subst, ◌∙◌, arith, append_assoc, le-ltb, lt-ltb}
use Rattle.std.proofs.lemmas.List.{append-nil, length_push}
use Rattle.px_value.specs.declared.value.Value.{Value}
use Rattle.px_value.specs.declared.value.Value.TheVariants.{Null, Ref}
use Rattle.px_value.specs.declared.thrown.Thrown.{Thrown}
use Rattle.px_value.specs.declared.thrown.Thrown.TheVariants.{StackOverflowError, TurnsOut}
use Rattle.px_value.specs.Operators.{Applied}
use Rattle.px_value.specs.Outcome.{Outcome, Gives, Throws, Asks, then_run, beside, pure, ◌>>=◌, Flow}
use Rattle.px_normal.specs.declared.word.Operand.{Operand}
use Rattle.px_normal.specs.declared.word.Word.{Word}
use Rattle.px_normal.specs.declared.word.Word.TheVariants as w
use Rattle.px_normal.specs.declared.code.Code.{Code}
use Rattle.px_blocks.specs.declared.side.Side.{Side}
use Rattle.px_blocks.specs.declared.block.Deed.TheVariants as deed
use Rattle.px_blocks.specs.declared.block.Send.{Send}
use Rattle.px_blocks.specs.declared.block.Statement.{Statement}
use Rattle.px_blocks.specs.declared.block.Block.{Block}
use Rattle.px_blocks.specs.declared.block.Exit.{Exit}
use Rattle.px_blocks.specs.declared.block.Exit.TheVariants.{Branch, Call}
use Rattle.px_normal.specs.First.{Slots}
use Rattle.px_value.specs.declared.answer.Answer.{Answer}
use Rattle.px_value.specs.Limits.{all_frames}
use Rattle.px_effects.specs.Act.{Acted, acted, Landed, landed}
use Rattle.px_effects.specs.Run.{Shared, Ask, max_turns, in_world, asked}
use Rattle.px_effects.specs.Operations.{Work, Acts, Operates, Said, Answers, Out, counted, with_said, max_operations}
use Rattle.px_normal.specs.Run.{Ran, Traced, Frame as Within, with_ran}
use Rattle.px_normal.specs.Words.{Does, Works, Invokes, operand, does_of, answer_of, to_of, with_slot, is_return, result_of, is_true}
use Rattle.px_normal.specs.CodeRun.{flow_if, ended, act_ends, act_run, work_run, calls_in, starts}
use Rattle.px_blocks.specs.Plan.{Plan, firsts_of}
use Rattle.px_blocks.specs.Machine.{slots_from, Frame, Control, Machine, values_of, top, put_in_slot, sent, also_marked, block_at, onward, chosen, last_or, How, Next, Fell, Waits, Left, Back, to_of_last, back_of, back_in, back_from, left_with, max_stack, turned_if, pushed_if, goes, Stop, RunsOn, Stops, Stepped, ran_of, after_act, leaves, valued_if, valued, step_ends, act_step, does_step, step, also_ran, then_steps, steps, how_of, done, block_answered, end_left, is_last}
use Rattle.px_blocks.specs.Message.{transfer}
use Rattle.px_blocks.specs.Sides.{other, same_side}
use Rattle.px_blocks.specs.One.{Happening, Did, Sent, AskedAt, ToldAt, Aborted, all_ran, One, Step, Goes, Ended, Falls, Asks as Stays, passed, passed_if, pass, shared_of, with_asked, aborted, one_done, one_end, one_at, one_step, one_hears, one_answers, one_answer, one_told, one_asks, one_begun, side_next, Leads, here, root_frame, reply_of, traced, first_of}
use Rattle.px_blocks.specs.Rules.{is_operation, send_of, Cutting, statement_of, first_in, cutting}
use Rattle.px_blocks.specs.Law.{RunsAs, BlocksRunAsCode}
use Rattle.px_blocks.proofs.Runs.{all_frames_are}
use Rattle.px_blocks.proofs.Words.{only_asks}
use Rattle.px_blocks.proofs.Ways.{steps_none, steps_more, leads_on, leads_as, leads_step}
use Rattle.px_blocks.proofs.Frames.{Plain, plain, plains, with_values, how_many, top_slots, top_back, top_filled, frame_left, entered_plain, pushed_plains, settled_plains}
use Rattle.px_blocks.proofs.Places.{onward_to}
use Rattle.px_blocks.proofs.Lifting.{with_turn, turns_of, Runner, Reaches, WorkEnds, with_shared, noted_at, IsThere, Keeps, Returned, lift}

-- a frame of the machine but for its slots: the block that called it, and the frames below it
pub record InFrame : Type 0 where
  pub method : ℕ
  pub back : ℕ
  pub caller : Plain
  pub lower : List Plain

abbrev pub below : InFrame → List Plain
below k = k.lower ++ k.caller ∷ []

abbrev frame_with : InFrame → Slots → Plain
frame_with k slots = record { method = k.method; back = k.back; slots = slots }

abbrev pub stack : InFrame → Slots → List Plain
stack k slots = below k ++ frame_with k slots ∷ []

-- what the run of code carries, as a machine in a block has it
abbrev traced_at : {W : Type 0} → Machine → W → ℕ → List Ran → Traced W
traced_at m world operations ran = record { shared = record { heap = m.heap; world = world; prints = m.prints; turns = m.control.turns; operations = operations }; ran = ran }

did_ran : (story : List Happening) (side : Side) (ran : List Ran) (more : List Happening) → all_ran more ≡ [] → all_ran (story ++ Did side ran ∷ more) ≡ all_ran story ++ ran
did_ran [] side ran more e = ap (λ (rs : List Ran). ran ++ rs) e ∙ append-nil ran
did_ran (Did side' ran' ∷ story) side ran more e = ap (λ (rs : List Ran). ran' ++ rs) (did_ran story side ran more e) ∙ sym (append_assoc ran' (all_ran story) ran)
did_ran (Sent side' t ∷ story) side ran more e = did_ran story side ran more e
did_ran (AskedAt side' op ∷ story) side ran more e = did_ran story side ran more e
did_ran (ToldAt side' said ∷ story) side ran more e = did_ran story side ran more e
did_ran (Aborted side' t ∷ story) side ran more e = did_ran story side ran more e
did_ran (Rattle.px_blocks.specs.One.Committed u ∷ story) side ran more e = did_ran story side ran more e

-- a happening in which no statement runs
quiet_ran : (story : List Happening) (h : Happening) → all_ran (h ∷ []) ≡ [] → all_ran (story ++ h ∷ []) ≡ all_ran story
quiet_ran [] h e = e
quiet_ran (x ∷ story) h e = ap (λ (rs : List Ran). Rattle.px_blocks.specs.One.ran_in x ++ rs) (quiet_ran story h e)

module _ {Q W : Type 0} (plan : Plan) (ask : Ask Q W) where
  abbrev blocks : List Block
  blocks = plan.blocks.blocks

  abbrev code : Code
  code = plan.code

  -- where the frame goes back to, and the caller's frame then
  abbrev back_to : InFrame → Back
  back_to k = back_of (block_at blocks k.back)

  abbrev caller_with : InFrame → Option Value → Plain
  caller_with k v = with_values (with_slot (back_to k).to (unwrap_or v Null) k.caller.slots) k.caller

  -- ---- where a run is

  pub record AtBegin (k : InFrame) (n : ℕ) (s : Within W) (x : Step Q (One W)) : Type 0 where
    pub one : One W
    pub is : x ≡ Goes one
    pub block : one.block ≡ n
    pub frames : plains one.machine.control.frames ≡ stack k s.locals
    pub shared : traced one ≡ s.shared

  -- what comes of the rest of a block, with what ran before it
  abbrev rest_of : One W → List Ran → ℕ → Exit → Stepped → Step Q (One W)
  rest_of o ran n e st = one_asks plan ask (one_done o (done e (also_ran ran st)))

  pub record InBlock (k : InFrame) (n : ℕ) (rest : List Statement) (e : Exit) (s : Within W) (x : Step Q (One W)) : Type 0 where
    pub one : One W
    pub ran : List Ran
    pub machine : Machine
    pub is : x ≡ rest_of one ran n e (steps plan n e rest machine)
    pub block : one.block ≡ n
    pub frames : plains machine.control.frames ≡ stack k s.locals
    pub shared : traced_at machine one.world one.operations (all_ran one.story ++ ran) ≡ s.shared

  pub record HasLeft (k : InFrame) (v : Option Value) (g : Traced W) (x : Step Q (One W)) : Type 0 where
    pub one : One W
    pub is : x ≡ Goes one
    pub block : one.block ≡ (back_to k).next
    pub frames : plains one.machine.control.frames ≡ k.lower ++ caller_with k v ∷ []
    pub shared : traced one ≡ g

  abbrev pub runner : Runner Q W
  runner = record {
    X = Step Q (One W);
    Leads = Leads plan ask;
    K = InFrame;
    method = λ k. k.method;
    depth = λ k. suc (length (below k));
    Begins = AtBegin;
    Mid = InBlock;
    Left = HasLeft;
    Fell = λ t g x. (o : One W) × (x ≡ Falls t o) × (traced o ≡ g);
    Asking = λ q g x. (s : Statement) × (o : One W) × (x ≡ Stays q s o) × (traced o ≡ g);
  }

  -- ---- a statement's own work

  -- a frame that is left with a result
  left_frames : (k : InFrame) (slots : Slots) (v : Option Value) (c : Control) → plains c.frames ≡ stack k slots → plains (left_with blocks v c).control.frames ≡ k.lower ++ caller_with k v ∷ []
  left_frames k slots v c e =
      frame_left c k.lower k.caller (frame_with k slots) (back_from blocks c.frames).to (unwrap_or v Null) e
      ∙ ap (λ n. k.lower ++ with_values (with_slot (back_of (block_at blocks n)).to (unwrap_or v Null) k.caller.slots) k.caller ∷ []) (top_back c.frames (below k) (frame_with k slots) e)

  left_block : (k : InFrame) (slots : Slots) (c : Control) → plains c.frames ≡ stack k slots → (back_from blocks c.frames).next ≡ (back_to k).next
  left_block k slots c e = ap (λ n. (back_of (block_at blocks n)).next) (top_back c.frames (below k) (frame_with k slots) e)

  left_turns : (v : Option Value) (c : Control) → (left_with blocks v c).control.turns ≡ c.turns
  left_turns v c = put_turns (back_from blocks c.frames).to (unwrap_or v Null)
    where
      put_turns : (to : Option ℕ) (v : Value) → (put_in_slot (top c.frames - 1) to v c).turns ≡ c.turns
      put_turns None v = refl
      put_turns (Some n) v = refl

  same_ran : (o : One W) (side : Side) (ran more : List Ran) (tail : List Happening) → all_ran tail ≡ [] → all_ran (o.story ++ Did side (ran ++ more) ∷ tail) ≡ (all_ran o.story ++ ran) ++ more
  same_ran o side ran more tail e = did_ran o.story side (ran ++ more) tail e ∙ sym (append_assoc (all_ran o.story) ran more)

  module _ (k : InFrame) (n node : ℕ) (send : Option Send) (word : Word) (rest : List Statement) (e : Exit) (slots : Slots) (o : One W) (ran : List Ran) (x : Step Q (One W)) (at : o.block ≡ n) where
    abbrev then_rest : Stepped → Stepped
    then_rest st = then_steps st (steps plan n e rest) st.stop

    valued_ends : (v : Value) (over : Bool) (m : Machine) (more : List Ran) → over ≡ is_return word → plains m.control.frames ≡ stack k slots →
        x ≡ rest_of o ran n e (then_rest (valued_if over blocks send word more v m)) →
        WorkEnds runner k (InBlock k n rest e) (Gives (flow_if over (result_of word v)) (record { locals = with_slot (to_of word) v slots; shared = traced_at m o.world o.operations ((all_ran o.story ++ ran) ++ more) })) x
    valued_ends v true m more ret frames is = (
      x,
      here,
      record {
        one = _;
        is = is;
        block = left_block k slots m.control frames;
        frames = left_frames k slots (result_of word v) m.control frames;
        shared = λ i. record { shared = record { heap = m.heap; world = o.world; prints = m.prints; turns = left_turns (result_of word v) m.control i; operations = o.operations }; ran = same_ran o o.side ran more [] refl i };
      },
    )
    valued_ends v false m more ret frames is =
        let d = put_in_slot (top m.control.frames) (to_of word) v m.control in
        let after : Machine = record m { control = sent send d } in (
          x,
          here,
          record {
            one = o;
            ran = ran ++ more;
            machine = after;
            is = is ∙ ap (λ (rs : List Ran). one_asks plan ask (one_done o (done e (record { machine = (steps plan n e rest after).machine; ran = rs; stop = (steps plan n e rest after).stop })))) (sym (append_assoc ran more (steps plan n e rest after).ran));
            block = at;
            frames = top_filled m.control (below k) (frame_with k slots) (to_of word) v frames;
            shared = λ i. record { shared = record { heap = m.heap; world = o.world; prints = m.prints; turns = put_turns (to_of word) v i; operations = o.operations }; ran = sym (append_assoc (all_ran o.story) ran more) i };
          },
        )
      where
        put_turns : (to : Option ℕ) (v : Value) → (put_in_slot (top m.control.frames) to v m.control).turns ≡ m.control.turns
        put_turns None v = refl
        put_turns (Some n) v = refl

    applied_ends : (a : Applied) (m : Machine) (more : List Ran) → plains m.control.frames ≡ stack k slots →
        x ≡ rest_of o ran n e (then_rest (valued blocks send word more m a)) →
        WorkEnds runner k (InBlock k n rest e) (ended word slots (traced_at m o.world o.operations ((all_ran o.story ++ ran) ++ more)) a) x
    applied_ends (Ok v) m more frames is = valued_ends v (is_return word) m more refl frames is
    applied_ends (Err t) m more frames is = (x, here, (_, is, λ i. record { shared = record { heap = m.heap; world = o.world; prints = m.prints; turns = m.control.turns; operations = o.operations }; ran = same_ran o o.side ran more (Aborted o.side t ∷ []) refl i }))

    acts_end : (m : Machine) (a : Acted) (l : Landed) → plains m.control.frames ≡ stack k slots →
        x ≡ rest_of o ran n e (then_rest (step_ends blocks node send word m a l)) →
        WorkEnds runner k (InBlock k n rest e) (act_ends node word slots (traced_at m o.world o.operations (all_ran o.story ++ ran)) a l) x
    acts_end m a l frames is = applied_ends l.value (after_act a l m) (ran_of node a.reads a.writes) frames is

    -- an answer's act, as that of a statement that stands last
    last_same : (o' : One W) (a : Applied) (m : Machine) (more : List Ran) → one_done o' (done e (valued blocks send word more m a)) ≡ rest_of o' [] n e (then_steps (valued blocks send word more m a) (steps plan n e []) (valued blocks send word more m a).stop)
    last_same o' (Err t) m more = refl
    last_same o' (Ok v) m more = by_return (is_return word)
      where
        by_return : (over : Bool) → one_done o' (done e (valued_if over blocks send word more v m)) ≡ rest_of o' [] n e (then_steps (valued_if over blocks send word more v m) (steps plan n e []) (valued_if over blocks send word more v m).stop)
        by_return true = refl
        by_return false =
            let after : Machine = record m { control = sent send (put_in_slot (top m.control.frames) (to_of word) v m.control) } in
            ap (λ (rs : List Ran). one_asks plan ask (one_done o' (done e (record { machine = after; ran = rs; stop = RunsOn })))) (sym (append-nil more))
            ∙ ap (λ (st : Stepped). one_asks plan ask (one_done o' (done e (also_ran more st)))) (sym (steps_none plan n e after))

    -- the block goes to a block, or falls, by a statement that leaves it
    jumps : (k' : InFrame) (s' : Within W) (m : Machine) (c : Control) (to : ℕ) → x ≡ rest_of o ran n e (then_rest (leaves node m (goes to c))) → plains c.frames ≡ stack k' s'.locals → traced_at (record m { control = c }) o.world o.operations ((all_ran o.story ++ ran) ++ ran_of node [] []) ≡ s'.shared → AtBegin k' to s' x
    jumps k' s' m c to is frames shared = record {
      one = _;
      is = is;
      block = refl;
      frames = frames;
      shared = (λ i. record { shared = record { heap = m.heap; world = o.world; prints = m.prints; turns = c.turns; operations = o.operations }; ran = same_ran o o.side ran (ran_of node [] []) [] refl i }) ∙ shared;
    }

    falls : (g : Traced W) (t : Thrown) (m : Machine) (c : Control) → x ≡ rest_of o ran n e (then_rest (leaves node m (record { control = c; how = Fell t }))) → traced_at (record m { control = c }) o.world o.operations ((all_ran o.story ++ ran) ++ ran_of node [] []) ≡ g → runner.Fell t g x
    falls g t m c is shared = (_, is, (λ i. record { shared = record { heap = m.heap; world = o.world; prints = m.prints; turns = c.turns; operations = o.operations }; ran = same_ran o o.side ran (ran_of node [] []) (Aborted o.side t ∷ []) refl i }) ∙ shared)

  -- ---- control goes over

  passed_frames : (b : Bool) (o : One W) → plains (passed_if b plan o).machine.control.frames ≡ plains o.machine.control.frames
  passed_frames true o = refl
  passed_frames false o = settled_plains o.machine.control.frames

  passed_traced : (b : Bool) (o : One W) → traced (passed_if b plan o) ≡ traced o
  passed_traced true o = refl
  passed_traced false o = λ i. record { shared = record { heap = o.machine.heap; world = o.world; prints = o.machine.prints; turns = o.machine.control.turns; operations = o.operations }; ran = quiet_ran o.story (Sent (other o.side) (transfer plan o.block o.machine.control o.machine.heap)) refl i }

  passed_block : (b : Bool) (o : One W) → (passed_if b plan o).block ≡ o.block
  passed_block true o = refl
  passed_block false o = refl

  not_last : (k : InFrame) (slots : Slots) (c : Control) → plains c.frames ≡ stack k slots → is_last c ≡ false
  not_last k slots c e = let a = how_many c.frames (below k) (frame_with k slots) e in let b = length_push k.lower k.caller in le-ltb (length c.frames) 2 (omega (arith, a, b))

  -- ---- each statement

  module _ (c : Cutting) where
    module _ (k : InFrame) (made node : ℕ) (word : Word) (rest : List Statement) (exit : Exit) (s : Within W) (x : Step Q (One W)) (mid : InBlock k made (statement_of c.placed node (deed.Does word) ∷ rest) exit s x) where
      abbrev m : Machine
      m = mid.machine

      -- the slots of the frame that runs
      values_are : values_of m.control ≡ s.locals
      values_are = top_slots m.control.frames (below k) (frame_with k s.locals) mid.frames

      abbrev stepped : Does → Step Q (One W)
      stepped d = let st = does_step plan made exit node (send_of c.placed.sends node) word m d in rest_of mid.one mid.ran made exit (then_steps st (steps plan made exit rest) st.stop)

      does_is : (d : Does) → does_of code word s.locals ≡ d → x ≡ stepped d
      does_is d e =
          mid.is ∙ ap (λ (st : Stepped). rest_of mid.one mid.ran made exit st) (steps_more plan made exit (statement_of c.placed node (deed.Does word)) rest m)
          ∙ ap (λ (vs : Slots). stepped (does_of code word vs)) values_are ∙ ap stepped e

    works_as : (k : InFrame) (made node : ℕ) (word : Word) (rest : List Statement) (exit : Exit) (s : Within W) (x : Step Q (One W)) (work : Work) → IsThere code blocks c runner k made (statement_of c.placed node (deed.Does word)) rest exit → does_of code word s.locals ≡ Works work → (is_operation word ≡ true → rest ≡ []) →
        InBlock k made (statement_of c.placed node (deed.Does word) ∷ rest) exit s x → WorkEnds runner k (InBlock k made rest exit) (work_run code ask node word work s) x
    works_as k made node word rest exit s x (Acts act) there d none mid =
        let a = acted (firsts_of code) act mid.machine.heap in
        subst (λ (g : Traced W). WorkEnds runner k (InBlock k made rest exit) (work_run code ask node word (Acts act) (with_shared s g)) x) mid.shared
        (acts_end k made node (send_of c.placed.sends node) word rest exit s.locals mid.one mid.ran x mid.block mid.machine a (landed mid.machine.prints a.ends) mid.frames (does_is k made node word rest exit s x mid (Works (Acts act)) d))
    works_as k made node word rest exit s x (Operates op) there d none mid =
        subst (λ (g : Traced W). WorkEnds runner k (InBlock k made rest exit) (work_run code ask node word (Operates op) (with_shared s g)) x) mid.shared
        (subst (λ (r : List Statement). WorkEnds runner k (InBlock k made r exit) (work_run code ask node word (Operates op) (with_shared s (traced_at m mid.one.world mid.one.operations before))) x) (sym (none (only_asks code word s.locals op d)))
        (may_hear (nat_lt mid.one.operations max_operations) (does_is k made node word rest exit s x mid (Works (Operates op)) d)))
      where
        m : Machine
        m = mid.machine

        before : List Ran
        before = all_ran mid.one.story ++ mid.ran

        asking : One W
        asking = record mid.one { machine = mid.machine; story = mid.one.story ++ Did mid.one.side (mid.ran ++ []) ∷ AskedAt mid.one.side op ∷ [] }

        shared : Shared W
        shared = shared_of asking

        st : Statement
        st = statement_of c.placed node (deed.Does word)

        -- a question is no statement
        asking_ran : all_ran asking.story ≡ before
        asking_ran = did_ran mid.one.story mid.one.side (mid.ran ++ []) (AskedAt mid.one.side op ∷ []) refl ∙ ap (λ (rs : List Ran). all_ran mid.one.story ++ rs) (append-nil mid.ran)

        -- what comes of what is said
        heard : Outcome Q (Shared W) Said → Outcome Q (Within W) (Flow Value)
        heard o = then_run (beside s.locals (with_ran before o)) (λ said. act_run code node word (with_said (answer_of word) said))

        hears : (said : Said) (world : W) (operations : ℕ) → x ≡ one_told plan st asking (Gives said (record shared { world = world; operations = operations })) →
            WorkEnds runner k (InBlock k made [] exit) (heard (Gives said (record shared { world = world; operations = operations }))) x
        hears said world operations is =
            let o : One W = one_hears said (record asking { world = world; operations = operations }) in
            let act = with_said (answer_of word) said in
            let a = acted (firsts_of code) act mid.machine.heap in
            let l = landed mid.machine.prints a.ends in
            let at_block : block_at blocks asking.block ≡ Some there.0.block = ap (block_at blocks) mid.block ∙ there.0.is in
            let ran_is : all_ran o.story ++ [] ≡ before = append-nil (all_ran o.story) ∙ quiet_ran asking.story (ToldAt asking.side said) refl ∙ asking_ran in
            subst (λ (rs : List Ran). WorkEnds runner k (InBlock k made [] exit) (act_ends node word s.locals (traced_at m world operations rs) a l) x) ran_is
            (acts_end k made node (send_of c.placed.sends node) word [] exit s.locals o [] x mid.block mid.machine a l mid.frames
            (is ∙ ap (λ (b : Option Block). one_answers plan b st said o) at_block
            ∙ ap (λ (e : Exit). one_done o (done e (act_step plan node (send_of c.placed.sends node) word mid.machine act))) there.0.exit_is
            ∙ last_same k made node (send_of c.placed.sends node) word [] exit s.locals mid.one mid.ran x mid.block o l.value (after_act a l mid.machine) (ran_of node a.reads a.writes)))

        world_hears : (o : Outcome Q W Answer) → x ≡ one_told plan st asking (then_run (in_world (counted shared) o) (λ answer. pure (Answers answer))) →
            WorkEnds runner k (InBlock k made [] exit) (heard (then_run (in_world (counted shared) o) (λ answer. pure (Answers answer)))) x
        world_hears (Gives answer world) is = hears (Answers answer) world (mid.one.operations + 1) is
        world_hears (Throws t world) is = (x, here, (_, is, λ i. record { shared = record (counted shared) { world = world }; ran = (quiet_ran asking.story (Aborted asking.side t) refl ∙ asking_ran) i }))
        world_hears (Asks q world) is = (x, here, (st, _, is, λ i. record { shared = record (counted shared) { world = world }; ran = asking_ran i }))

        may_hear : (may : Bool) → x ≡ one_told plan st asking (if may then (asked ask op >>= (λ answer. pure (Answers answer))) (counted shared) else Gives Out shared) →
            WorkEnds runner k (InBlock k made [] exit) (heard (if may then (asked ask op >>= (λ answer. pure (Answers answer))) (counted shared) else Gives Out shared)) x
        may_hear true is = world_hears (ask op mid.one.world) is
        may_hear false is = hears Out mid.one.world mid.one.operations is

    -- a statement that leaves its block, by what goes with control
    module _ (k : InFrame) (made node : ℕ) (a : Operand) (yes' no' : ℕ) (s : Within W) (x : Step Q (One W)) where
      abbrev e : Exit
      e = Branch yes' no'

      abbrev to_block : Slots → ℕ
      to_block slots = if is_true (operand slots a) then yes' else no'

      abbrev branch_of : One W → List Ran → Machine → Left → Step Q (One W)
      branch_of o ran m l = let st = leaves node m l in rest_of o ran made e (then_steps st (steps plan made e []) st.stop)

      chooses_as : InBlock k made (statement_of c.placed node (deed.Chooses a) ∷ []) e s x → AtBegin k (to_block s.locals) (with_shared s (noted_at node s)) x
      chooses_as mid =
          let values = top_slots mid.machine.control.frames (below k) (frame_with k s.locals) mid.frames in
          jumps k made node (send_of c.placed.sends node) (w.Return None) [] e s.locals mid.one mid.ran x mid.block k (with_shared s (noted_at node s)) mid.machine mid.machine.control (to_block s.locals)
          (mid.is ∙ ap (rest_of mid.one mid.ran made e) (steps_more plan made e (statement_of c.placed node (deed.Chooses a)) [] mid.machine)
          ∙ ap (λ (vs : Slots). branch_of mid.one mid.ran mid.machine (goes (to_block vs) mid.machine.control)) values)
          mid.frames
          (ap (Rattle.px_normal.specs.Run.noted node [] []) mid.shared)

      tested_is : (b : Bool) (mid : InBlock k made (statement_of c.placed node (deed.Tests a) ∷ []) e s x) → nat_lt (turns_of s) max_turns ≡ b → x ≡ branch_of mid.one mid.ran mid.machine (turned_if b (goes (to_block s.locals)) mid.machine.control)
      tested_is b mid t =
          let values = top_slots mid.machine.control.frames (below k) (frame_with k s.locals) mid.frames in
          mid.is ∙ ap (rest_of mid.one mid.ran made e) (steps_more plan made e (statement_of c.placed node (deed.Tests a)) [] mid.machine)
          ∙ ap (λ (vs : Slots). branch_of mid.one mid.ran mid.machine (turned_if (nat_lt mid.machine.control.turns max_turns) (goes (to_block vs)) mid.machine.control)) values
          ∙ ap (λ (z : Bool). branch_of mid.one mid.ran mid.machine (turned_if z (goes (to_block s.locals)) mid.machine.control)) (ap (λ (g : Traced W). nat_lt g.shared.turns max_turns) mid.shared ∙ t)

      tests_as : (mid : InBlock k made (statement_of c.placed node (deed.Tests a) ∷ []) e s x) → nat_lt (turns_of s) max_turns ≡ true → AtBegin k (to_block s.locals) (with_shared s (with_turn (noted_at node s))) x
      tests_as mid t =
          jumps k made node (send_of c.placed.sends node) (w.Return None) [] e s.locals mid.one mid.ran x mid.block k (with_shared s (with_turn (noted_at node s))) mid.machine (record mid.machine.control { turns = mid.machine.control.turns + 1 }) (to_block s.locals)
          (tested_is true mid t) mid.frames (ap (λ (g : Traced W). with_turn (Rattle.px_normal.specs.Run.noted node [] [] g)) mid.shared)

      no_turn_as : (mid : InBlock k made (statement_of c.placed node (deed.Tests a) ∷ []) e s x) → nat_lt (turns_of s) max_turns ≡ false → runner.Fell TurnsOut (noted_at node s) x
      no_turn_as mid t =
          falls k made node (send_of c.placed.sends node) (w.Return None) [] e s.locals mid.one mid.ran x mid.block (noted_at node s) TurnsOut mid.machine mid.machine.control
          (tested_is false mid t) (ap (Rattle.px_normal.specs.Run.noted node [] []) mid.shared)

    -- ---- calls

    module _ (k : InFrame) (made node after : ℕ) (to : Option ℕ) (of : Operand) (method : ℕ) (args : List Operand) (values : List Value) (s : Within W) (x : Step Q (One W))
        (there : IsThere code blocks c runner k made (statement_of c.placed node (deed.Does (w.Call to of method args))) [] (Call (first_in c.firsts method) after))
        (d : does_of code (w.Call to of method args) s.locals ≡ Invokes method values)
        (mid : InBlock k made (statement_of c.placed node (deed.Does (w.Call to of method args)) ∷ []) (Call (first_in c.firsts method) after) s x) where
      abbrev word : Word
      word = w.Call to of method args

      abbrev exit : Exit
      exit = Call (first_in c.firsts method) after

      abbrev deeper : InFrame
      deeper = record { method = method; back = made; caller = frame_with k s.locals; lower = below k }

      abbrev with_a_turn : Control → Control
      with_a_turn d = record d { turns = d.turns + 1 }

      abbrev call_of : Bool → Bool → Step Q (One W)
      call_of turn room = let st = leaves node mid.machine (turned_if turn (λ d. pushed_if room code (first_in c.firsts method) method made values d) mid.machine.control) in rest_of mid.one mid.ran made exit (then_steps st (steps plan made exit []) st.stop)

      many : length mid.machine.control.frames ≡ suc (length (below k))
      many = how_many mid.machine.control.frames (below k) (frame_with k s.locals) mid.frames

      abbrev call_by : Bool → Step Q (One W)
      call_by turn = let st = leaves node mid.machine (turned_if turn (λ d. pushed_if (nat_lt (length d.frames) max_stack) code (first_in c.firsts method) method made values d) mid.machine.control) in rest_of mid.one mid.ran made exit (then_steps st (steps plan made exit []) st.stop)

      room_is : (turn room : Bool) → nat_lt (suc (length (below k))) max_stack ≡ room → call_by turn ≡ call_of turn room
      room_is true room r = ap (λ n. call_of true (nat_lt n max_stack)) many ∙ ap (call_of true) r
      room_is false room r = refl

      called_is : (turn room : Bool) → nat_lt (turns_of s) max_turns ≡ turn → nat_lt (suc (length (below k))) max_stack ≡ room → x ≡ call_of turn room
      called_is turn room t r =
          does_is k made node word [] exit s x mid (Invokes method values) d
          ∙ ap call_by (ap (λ (g : Traced W). nat_lt g.shared.turns max_turns) mid.shared ∙ t)
          ∙ room_is turn room r

      calls_as : nat_lt (turns_of s) max_turns ≡ true → nat_lt (suc (length (below k))) max_stack ≡ true → AtBegin deeper (first_in c.firsts method) (record { locals = slots_from code method values; shared = with_turn (noted_at node s) }) x
      calls_as t r =
          jumps k made node (send_of c.placed.sends node) word [] exit s.locals mid.one mid.ran x mid.block deeper (record { locals = slots_from code method values; shared = with_turn (noted_at node s) }) mid.machine (Rattle.px_blocks.specs.Machine.pushed code method made values (with_a_turn mid.machine.control)) (first_in c.firsts method)
          (called_is true true t r)
          (pushed_plains code method made values mid.machine.control.frames (stack k s.locals) mid.frames)
          (ap (λ (g : Traced W). with_turn (Rattle.px_normal.specs.Run.noted node [] [] g)) mid.shared)

      no_turn_to : nat_lt (turns_of s) max_turns ≡ false → runner.Fell TurnsOut (noted_at node s) x
      no_turn_to t =
          falls k made node (send_of c.placed.sends node) word [] exit s.locals mid.one mid.ran x mid.block (noted_at node s) TurnsOut mid.machine mid.machine.control
          (called_is false (nat_lt (suc (length (below k))) max_stack) t refl) (ap (Rattle.px_normal.specs.Run.noted node [] []) mid.shared)

      no_frame_for : nat_lt (turns_of s) max_turns ≡ true → nat_lt (suc (length (below k))) max_stack ≡ false → runner.Fell StackOverflowError (with_turn (noted_at node s)) x
      no_frame_for t r =
          falls k made node (send_of c.placed.sends node) word [] exit s.locals mid.one mid.ran x mid.block (with_turn (noted_at node s)) StackOverflowError mid.machine (with_a_turn mid.machine.control)
          (called_is true false t r) (ap (λ (g : Traced W). with_turn (Rattle.px_normal.specs.Run.noted node [] [] g)) mid.shared)

      -- the result goes to the slot of the call, and control to the block behind it
      back_is : back_to deeper ≡ record { to = to; next = after }
      back_is =
          ap (λ (b : Option Block). back_of b) there.0.is
          ∙ (λ i. record { to = to_of_last (sym there.0.last_is i); next = onward (there.0.exit_is i) })

      comes_back : (v : Option Value) (g : Traced W) (y : Step Q (One W)) → HasLeft deeper v g y → AtBegin k after (record { locals = with_slot to (unwrap_or v Null) s.locals; shared = g }) y
      comes_back v g y l = record {
        one = l.one;
        is = l.is;
        block = l.block ∙ ap (λ (b : Back). b.next) back_is;
        frames = l.frames ∙ ap (λ (b : Back). below k ++ with_values (with_slot b.to (unwrap_or v Null) s.locals) (frame_with k s.locals) ∷ []) back_is;
        shared = l.shared;
      }

    goes_as : (k : InFrame) (made to : ℕ) (s : Within W) (x : Step Q (One W)) → InBlock k made [] (Rattle.px_blocks.specs.Rules.exit_to to) s x → AtBegin k to s x
    goes_as k made to s x mid = record {
      one = record mid.one { block = onward (Rattle.px_blocks.specs.Rules.exit_to to); machine = mid.machine; story = mid.one.story ++ Did mid.one.side (mid.ran ++ []) ∷ [] };
      is = mid.is ∙ ap (rest_of mid.one mid.ran made (Rattle.px_blocks.specs.Rules.exit_to to)) (steps_none plan made (Rattle.px_blocks.specs.Rules.exit_to to) mid.machine);
      block = onward_to to;
      frames = mid.frames;
      shared = (λ i. record { shared = record { heap = mid.machine.heap; world = mid.one.world; prints = mid.machine.prints; turns = mid.machine.control.turns; operations = mid.one.operations }; ran = (did_ran mid.one.story mid.one.side (mid.ran ++ []) [] refl ∙ ap (λ (rs : List Ran). all_ran mid.one.story ++ rs) (append-nil mid.ran)) i }) ∙ mid.shared;
    }

    comes_as : (k : InFrame) (n : ℕ) (b : Block) (s : Within W) (x : Step Q (One W)) → block_at blocks n ≡ Some b → AtBegin k n s x → Reaches runner (InBlock k n b.statements b.exit s) x
    comes_as k n b s x is begin =
        let o = begin.one in
        let z = same_side o.side (side_next plan o.block o.machine.control o.side) in
        let at = passed_block z o ∙ begin.block in (
          _,
          leads_step plan ask x o _ begin.is refl,
          record {
            one = pass plan o;
            ran = [];
            machine = (pass plan o).machine;
            is = ap (λ (q : Option Block). one_asks plan ask (one_at plan q (pass plan o))) (ap (block_at blocks) begin.block ∙ is) ∙ ap (λ m. one_asks plan ask (one_done (pass plan o) (done b.exit (steps plan m b.exit b.statements (pass plan o).machine)))) at;
            block = at;
            frames = passed_frames z o ∙ begin.frames;
            shared = (λ i. record { shared = (passed_traced z o i).shared; ran = (append-nil (all_ran (pass plan o).story) ∙ ap (λ (g : Traced W). g.ran) (passed_traced z o)) i }) ∙ begin.shared;
          },
        )

    ends_as : (k : InFrame) (s : Within W) (x : Step Q (One W)) → AtBegin k 0 s x → Reaches runner (HasLeft k None s.shared) x
    ends_as k s x begin =
        let o = begin.one in
        let z = same_side o.side (side_next plan o.block o.machine.control o.side) in
        let frames = passed_frames z o ∙ begin.frames in
        let p = pass plan o in (
          _,
          leads_step plan ask x o _ begin.is
              (ap (λ n. one_asks plan ask (one_at plan (block_at blocks n) p)) begin.block ∙ ap (λ b. one_asks plan ask (one_end b plan p)) (not_last k s.locals p.machine.control frames)),
          record {
            one = _;
            is = refl;
            block = left_block k s.locals p.machine.control frames;
            frames = left_frames k s.locals None p.machine.control frames;
            shared = (λ i. record { shared = record { heap = p.machine.heap; world = p.world; prints = p.machine.prints; turns = left_turns None p.machine.control i; operations = p.operations }; ran = (did_ran p.story p.side [] [] refl ∙ append-nil (all_ran p.story)) i }) ∙ passed_traced z o ∙ begin.shared;
          },
        )

    keeps : Keeps code blocks ask c runner
    keeps = record {
      stay = λ x. here;
      join = leads_on plan ask;
      goes = λ k made to s x e. (x, here, goes_as k made to s x e);
      comes = λ k n b s x is e. comes_as k n b s x is e;
      ends = λ k s x e. ends_as k s x e;
      works = λ k made node word rest exit s x work there d none e. works_as k made node word rest exit s x work there d none e;
      chooses = λ k made node a y n s x there e. (x, here, chooses_as k made node a y n s x e);
      tests = λ k made node a y n s x there t e. (x, here, tests_as k made node a y n s x e t);
      no_turn = λ k made node a y n s x there t e. (x, here, no_turn_as k made node a y n s x e t);
      calls = λ k made node after to of method args values s x there d t room e. (
        deeper k made node after to of method args values s x there d e,
        refl,
        (let a = length_push (below k) (frame_with k s.locals) in omega (arith, a)),
        (x, here, calls_as k made node after to of method args values s x there d e t (lt-ltb (suc (length (below k))) max_stack room)),
        λ v g y l. (y, here, comes_back k made node after to of method args values s x there d e v g y l),
      );
      no_turn_to_call = λ k made node after to of method args values s x there d t e. (x, here, no_turn_to k made node after to of method args values s x there d e t);
      no_frame = λ k made node after to of method args values s x there d t full e. (x, here, no_frame_for k made node after to of method args values s x there d e t (le-ltb (suc (length (below k))) max_stack (omega (arith, full))));
    }

-- ---- a call of an entry

abbrev at_entry : ℕ → InFrame
at_entry method = record { method = method; back = 0; caller = record { method = 0; back = 0; slots = Null ∷ [] }; lower = [] }

module _ {Q W : Type 0} (plan : Plan) (ask : Ask Q W) where
  reply_is : (v : Option Value) → unwrap_or (slice_get (with_slot (Some 0) (unwrap_or v Null) (Null ∷ [])) 0) Null ≡ unwrap_or v Null
  reply_is v = refl

  -- the lowest frame alone is left
  at_last : (method : ℕ) (v : Option Value) (g : Traced W) (x : Step Q (One W)) → HasLeft plan ask (at_entry method) v g x → (last : One W) × Leads plan ask x (Ended last) × (traced last ≡ g) × (reply_of last.machine.control ≡ unwrap_or v Null)
  at_last method v g x l =
      let o = l.one in
      let z = same_side o.side (side_next plan o.block o.machine.control o.side) in
      let p = pass plan o in
      let frames = passed_frames plan ask z o ∙ l.frames in
      let many = how_many p.machine.control.frames [] _ frames in (
        p,
        leads_step plan ask x o _ l.is (ap (λ n. one_asks plan ask (one_at plan (block_at plan.blocks.blocks n) p)) l.block ∙ ap (λ n. one_asks plan ask (one_end (nat_lt n 2) plan p)) many),
        passed_traced plan ask z o ∙ l.shared,
        lowest p.machine.control.frames _ frames ∙ reply_is v,
      )
    where
      lowest : (fs : List Frame) (q : Plain) → plains fs ≡ q ∷ [] → unwrap_or (slice_get (Rattle.px_blocks.specs.Machine.values_in (Rattle.px_blocks.specs.Machine.slots_at fs 0)) 0) Null ≡ unwrap_or (slice_get q.slots 0) Null
      lowest [] q e = absurd (let y : ⊥ = cc in y)
      lowest (f ∷ fs) q e = let h : plain f ≡ q = cc in ap (λ (r : Plain). unwrap_or (slice_get r.slots 0) Null) h

  runs_as : (c : Cutting) (method : ℕ) (o : Outcome Q (Traced W) (Option Value)) (x : Step Q (One W)) → Returned plan.code plan.blocks.blocks ask c (runner plan ask) (keeps plan ask c) (at_entry method) 0 o x → RunsAs plan ask x o
  runs_as c method (Gives v g) x r = let l = at_last method v g r.0.0 r.0.2 in (l.0, leads_on plan ask x _ _ r.0.1 l.1, l.2, l.3)
  runs_as c method (Throws t g) x r = (r.2.0, leads_on plan ask x _ _ r.1 (leads_as plan ask _ _ r.2.1), r.2.2)
  runs_as c method (Asks q g) x r = (r.2.0, r.2.1, leads_on plan ask x _ _ r.1 (leads_as plan ask _ _ r.2.2), r.2.3)

pub blocks_run_as_code : (Q W : Type 0) → BlocksRunAsCode Q W
blocks_run_as_code Q W plan placed cut ask heap world method args =
    let c = cutting placed plan.blocks in
    let e : all_frames ≡ suc 199 = all_frames_are in
    let o : One W = one_begun plan method args heap world in
    runs_as plan ask c method _ _
    (subst (λ n. Returned plan.code plan.blocks.blocks ask c (runner plan ask) (keeps plan ask c) (at_entry method) 0 (calls_in plan.code ask n method (Ref 0 ∷ args) (starts heap world)) (Goes o)) (sym e)
    (lift plan.code plan.blocks.blocks ask c (runner plan ask) (keeps plan ask c) cut 199 (at_entry method) method (Ref 0 ∷ args) (starts heap world) 0 (Goes o) refl (let k = all_frames_are in omega (arith, k)) (omega arith)
    (record { one = o; is = refl; block = refl; frames = λ i. record { method = 0; back = 0; slots = Null ∷ [] } ∷ entered_plain plan.code method 0 (Ref 0 ∷ args) i ∷ []; shared = refl })))
