-- A run on the one machine makes no reference that leads nowhere.
use Rattle.std.proofs.Common.{◌≡◌, ℕ, zero, suc, ◌+◌, ◌-◌, ◌≤◌, nat_lt, Bool, true, false, if◌then◌else◌, List, [], ◌∷◌, ◌++◌, map, take, length, Option, Some, None, unwrap_or, slice_get, slice_set, Ok, Err, refl, sym, subst}
use Rattle.std.specs.List.{AllByRecursion}
use Rattle.px_value.specs.declared.value.Value.{Value}
use Rattle.px_value.specs.declared.value.Value.TheVariants.{Null}
use Rattle.px_value.specs.declared.answer.Answer.{Answer}
use Rattle.px_value.specs.declared.statement.TableOp.{TableOp}
use Rattle.px_value.specs.Operators.{Applied}
use Rattle.px_value.specs.Outcome.{Outcome, Gives, Throws, Asks as LeavesOpen, then_run, ◌>>=◌, pure}
use Rattle.px_blocks.specs.declared.block.Block.{Block}
use Rattle.px_blocks.specs.declared.block.Deed.{Deed}
use Rattle.px_blocks.specs.declared.block.Deed.TheVariants as deed
use Rattle.px_blocks.specs.declared.block.Exit.{Exit}
use Rattle.px_blocks.specs.declared.block.Send.{Send}
use Rattle.px_blocks.specs.declared.block.Statement.{Statement}
use Rattle.px_blocks.specs.Sides.{same_side}
use Rattle.px_effects.specs.Act.{Act, Acted, acted, Ends, Came, Printed, Landed, landed, may_print, printed_if}
use Rattle.px_effects.specs.Run.{Shared, Ask, asked, in_world, max_turns}
use Rattle.px_effects.specs.Operations.{Acts, Operates, Said, Answers, Out, counted, told, with_said, max_operations}
use Rattle.px_normal.specs.declared.word.Word.{Word}
use Rattle.px_normal.specs.declared.word.Word.TheVariants as w
use Rattle.px_normal.specs.Run.{Ran}
use Rattle.px_normal.specs.Words.{Does, Works, Invokes, operand, does_of, answer_of, to_of, is_return, result_of, is_true}
use Rattle.px_blocks.specs.Plan.{Plan, firsts_of}
use Rattle.px_blocks.specs.Machine.{Slot, Frame, just_written, unwritten, values_in, slots_at, top, filled, blank_values, blank_slots, given, entered, Control, Machine, values_of, put_in_slot, block_at, chosen, entry_of, How, Next, Fell, Waits as Awaits, Left, goes, turned_if, pushed_if, max_stack, Back, back_from, one_less, left_with, Stop, RunsOn, Stops, Stepped, ran_of, after_act, valued_if, valued, act_step, does_step, deed_step, step, told_step, answered, then_steps, steps, how_of, Done, block_run, block_answered, is_last}
use Rattle.px_blocks.specs.Message.{settled, all_settled}
use Rattle.px_blocks.specs.One.{One, Step, Goes, Ended, Falls, Waits, Asks, shared_of, with_asked, side_next, passed_if, pass, one_after, one_end, one_at, one_step, one_hears, one_answers, one_told, one_asks, one_moves, goes_on, one_run}
use Rattle.px_ends.specs.Fits.{IsPlain, PlainSaid, IsPlainAsk}
use Rattle.px_ends.specs.Welcome.{LeadsIn, SlotsLead, FramesLead, IsSure, PlainDeed, IsPlainBlock, IsPlainPlan, SureStep, RunsStaySure}
use Rattle.px_ends.proofs.StackSteps.{filled_above}
use Rattle.px_ends.proofs.Fitting.{blank_plain}
use Rattle.px_ends.proofs.SureActs.{plain_leads, still, SafeEnd, Safe, EndsLead, acts_lead, SafeDoes, words_safe, said_safe}

-- ---- frames

all_map : {A : Type 0} (P Q : A → Type 0) (xs : List A) → ((x : A) → P x → Q x) → AllByRecursion P xs → AllByRecursion Q xs
all_map P Q [] f all = tt
all_map P Q (x ∷ xs) f all = (f x all.0, all_map P Q xs f all.1)

all_append : {A : Type 0} (P : A → Type 0) (xs ys : List A) → AllByRecursion P xs → AllByRecursion P ys → AllByRecursion P (xs ++ ys)
all_append P [] ys all more = more
all_append P (x ∷ xs) ys all more = (all.0, all_append P xs ys all.1 more)

all_take : {A : Type 0} (P : A → Type 0) (n : ℕ) (xs : List A) → AllByRecursion P xs → AllByRecursion P (take n xs)
all_take P zero xs all = tt
all_take P (suc n) [] all = tt
all_take P (suc n) (x ∷ xs) all = (all.0, all_take P n xs all.1)

frames_still : (n m : ℕ) (frames : List Frame) → n ≤ m → FramesLead n frames → FramesLead m frames
frames_still n m frames l all = all_map (λ (f : Frame). SlotsLead n f.slots) (λ (f : Frame). SlotsLead m f.slots) frames (λ f. all_map (λ (s : Slot). LeadsIn n s.value) (λ (s : Slot). LeadsIn m s.value) f.slots (λ s. still n m s.value l)) all

slot_leads : (n : ℕ) (slots : List Slot) (k : ℕ) → SlotsLead n slots → LeadsIn n (unwrap_or (slice_get (values_in slots) k) Null)
slot_leads n [] k all = tt
slot_leads n (x ∷ slots) zero all = all.0
slot_leads n (x ∷ slots) (suc k) all = slot_leads n slots k all.1

slots_lead : (n : ℕ) (frames : List Frame) (f : ℕ) → FramesLead n frames → SlotsLead n (slots_at frames f)
slots_lead n [] f all = tt
slots_lead n (x ∷ frames) zero all = all.0
slots_lead n (x ∷ frames) (suc f) all = slots_lead n frames f all.1

values_lead : (n : ℕ) (c : Control) (k : ℕ) → FramesLead n c.frames → LeadsIn n (unwrap_or (slice_get (values_of c) k) Null)
values_lead n c k all = slot_leads n (slots_at c.frames (top c.frames)) k (slots_lead n c.frames (top c.frames) all)

set_leads : (n : ℕ) (slots : List Slot) (k : ℕ) (v : Value) → LeadsIn n v → SlotsLead n slots → SlotsLead n (slice_set slots k (just_written v))
set_leads n [] k v l all = tt
set_leads n (x ∷ slots) zero v l all = (l, all.1)
set_leads n (x ∷ slots) (suc k) v l all = (all.0, set_leads n slots k v l all.1)

filled_leads : (n : ℕ) (frames : List Frame) (f k : ℕ) (v : Value) → LeadsIn n v → FramesLead n frames → FramesLead n (filled frames f k v)
filled_leads n [] f k v l all = tt
filled_leads n (x ∷ frames) zero k v l all = (set_leads n x.slots k v l all.0, all.1)
filled_leads n (x ∷ frames) (suc f) k v l all = subst (FramesLead n) (sym (filled_above (slice_get frames f) k v x frames f)) (all.0, filled_leads n frames f k v l all.1)

put_leads : (n f : ℕ) (to : Option ℕ) (v : Value) (c : Control) → LeadsIn n v → FramesLead n c.frames → FramesLead n (put_in_slot f to v c).frames
put_leads n f None v c l all = all
put_leads n f (Some k) v c l all = filled_leads n c.frames f k v l all

settled_slots : (n : ℕ) (slots : List Slot) → SlotsLead n slots → SlotsLead n (map settled slots)
settled_slots n [] all = tt
settled_slots n (s ∷ slots) all = (all.0, settled_slots n slots all.1)

settled_leads : (n : ℕ) (frames : List Frame) → FramesLead n frames → FramesLead n (all_settled frames)
settled_leads n [] all = tt
settled_leads n (x ∷ frames) all = (settled_slots n x.slots all.0, settled_leads n frames all.1)

blank_leads : (n : ℕ) (vs : List Value) → AllByRecursion IsPlain vs → SlotsLead n (map unwritten vs)
blank_leads n [] all = tt
blank_leads n (v ∷ vs) all = (plain_leads n v all.0, blank_leads n vs all.1)

given_leads : (n : ℕ) (vs : List Value) (slots : List Slot) → AllByRecursion (LeadsIn n) vs → SlotsLead n slots → SlotsLead n (given vs slots)
given_leads n [] slots all more = more
given_leads n (v ∷ vs) [] all more = tt
given_leads n (v ∷ vs) (s ∷ slots) all more = (all.0, given_leads n vs slots all.1 more.1)

-- what a return gives
result_leads : (n : ℕ) (word : Word) (v : Value) → LeadsIn n v → LeadsIn n (unwrap_or (result_of word v) Null)
result_leads n (w.Return None) v l = tt
result_leads n (w.Return (Some a)) v l = l
result_leads n _ v l = tt

module _ (plan : Plan) where
  abbrev SureHow : How → Machine → Type 0
  SureHow (Next n) m = IsSure m
  SureHow (Fell t) m = Unit {0}
  SureHow (Awaits op s) m = IsSure m × PlainDeed s.deed

  abbrev SureAt : Stop → Machine → Type 0
  SureAt RunsOn m = IsSure m
  SureAt (Stops how) m = SureHow how m

  -- ---- how a block is left

  left_sure : (v : Option Value) (m : Machine) → LeadsIn (length m.heap) (unwrap_or v Null) → IsSure m → IsSure (record m { control = (left_with plan.blocks.blocks v m.control).control })
  left_sure v m l h =
      let c : Control = m.control in
      let back : Back = back_from plan.blocks.blocks c.frames in
      let d : Control = put_in_slot (top c.frames - 1) back.to (unwrap_or v Null) c in
      record { cells = h.cells; frames = all_take (λ (f : Frame). SlotsLead (length m.heap) f.slots) (one_less (length d.frames)) d.frames (put_leads (length m.heap) (top c.frames - 1) back.to (unwrap_or v Null) c l h.frames); room = h.room }

  turned_sure : (b : Bool) (f : Control → Left) (m : Machine) → ((d : Control) → IsSure (record m { control = d }) → SureHow (f d).how (record m { control = (f d).control })) → IsSure m → SureHow (turned_if b f m.control).how (record m { control = (turned_if b f m.control).control })
  turned_sure true f m k h = let c = m.control in k (record c { turns = c.turns + 1 }) (record { cells = h.cells; frames = h.frames; room = h.room })
  turned_sure false f m k h = tt

  pushed_sure : (b : Bool) (entry method back : ℕ) (args : List Value) (m : Machine) → AllByRecursion (LeadsIn (length m.heap)) args → IsSure m → SureHow (pushed_if b plan.code entry method back args m.control).how (record m { control = (pushed_if b plan.code entry method back args m.control).control })
  pushed_sure true entry method back args m l h =
      let n : ℕ = length m.heap in
      let c = m.control in
      record { cells = h.cells; frames = all_append (λ (f : Frame). SlotsLead n f.slots) c.frames (entered plan.code method back args ∷ []) h.frames (given_leads n args (blank_slots plan.code method) l (blank_leads n (blank_values plan.code method) (blank_plain plan.code method)), tt); room = h.room }
  pushed_sure false entry method back args m l h = tt

  -- ---- statements

  valued_sure : (over : Bool) (send : Option Send) (word : Word) (ran : List Ran) (v : Value) (m : Machine) → LeadsIn (length m.heap) v → IsSure m → SureAt (valued_if over plan.blocks.blocks send word ran v m).stop (valued_if over plan.blocks.blocks send word ran v m).machine
  valued_sure true send word ran v m l h = left_sure (result_of word v) m (result_leads (length m.heap) word v l) h
  valued_sure false send word ran v m l h = record { cells = h.cells; frames = put_leads (length m.heap) (top m.control.frames) (to_of word) v m.control l h.frames; room = h.room }

  applied_sure : (send : Option Send) (word : Word) (ran : List Ran) (m : Machine) (x : Applied) → SafeEnd (length m.heap) x → IsSure m → SureAt (valued plan.blocks.blocks send word ran m x).stop (valued plan.blocks.blocks send word ran m x).machine
  applied_sure send word ran m (Ok v) l h = valued_sure (is_return word) send word ran v m l h
  applied_sure send word ran m (Err t) l h = tt

  landed_leads : (n : ℕ) (prints : List (List ℕ)) (e : Ends) → EndsLead n e → SafeEnd n (landed prints e).value
  landed_leads n prints (Came x) l = l
  landed_leads n prints (Printed line) l = pick (may_print line prints)
    where
      pick : (b : Bool) → SafeEnd n (printed_if b line prints).value
      pick true = tt
      pick false = tt

  act_sure : (node : ℕ) (send : Option Send) (word : Word) (m : Machine) (act : Act) → IsSure m → Safe plan.code (length m.heap) act → SureAt (act_step plan node send word m act).stop (act_step plan node send word m act).machine
  act_sure node send word m act h safe =
      let a : Acted = acted (firsts_of plan.code) act m.heap in
      let l : Landed = landed m.prints a.ends in
      let r = acts_lead plan.code act m.heap safe h.cells in
      applied_sure send word (ran_of node a.reads a.writes) (after_act a l m) l.value (landed_leads (length a.heap) m.prints a.ends r.ends)
      (record { cells = r.cells; frames = frames_still (length m.heap) (length a.heap) m.control.frames r.longer h.frames; room = r.room h.room })

  does_sure : (n : ℕ) (e : Exit) (node : ℕ) (send : Option Send) (word : Word) (m : Machine) (d : Does) → IsSure m → PlainDeed (deed.Does word) → SafeDoes plan.code (length m.heap) d → SureAt (does_step plan n e node send word m d).stop (does_step plan n e node send word m d).machine
  does_sure n e node send word m (Works (Acts act)) h p safe = act_sure node send word m act h safe
  does_sure n e node send word m (Works (Operates op)) h p safe = (h, p)
  does_sure n e node send word m (Invokes method values) h p safe =
      turned_sure (nat_lt m.control.turns max_turns) (λ d. pushed_if (nat_lt (length d.frames) max_stack) plan.code (entry_of e) method n values d) m
      (λ d g. pushed_sure (nat_lt (length d.frames) max_stack) (entry_of e) method n values (record m { control = d }) safe g) h

  deed_sure : (n : ℕ) (e : Exit) (node : ℕ) (send : Option Send) (m : Machine) (d : Deed) → IsSure m → PlainDeed d → SureAt (deed_step plan n e node send m d).stop (deed_step plan n e node send m d).machine
  deed_sure n e node send m (deed.Does word) h p = does_sure n e node send word m (does_of plan.code word (values_of m.control)) h p (words_safe plan.code (length m.heap) word (values_of m.control) (λ k. values_lead (length m.heap) m.control k h.frames) p)
  deed_sure n e node send m (deed.Chooses a) h p = record { cells = h.cells; frames = h.frames; room = h.room }
  deed_sure n e node send m (deed.Tests a) h p = turned_sure (nat_lt m.control.turns max_turns) (goes (chosen e (is_true (operand (values_of m.control) a)))) m (λ d g. g) h

  told_sure : (node : ℕ) (send : Option Send) (said : Said) (m : Machine) (d : Deed) → IsSure m → PlainSaid said → SureAt (told_step plan node send said m d).stop (told_step plan node send said m d).machine
  told_sure node send said m (deed.Does word) h p = act_sure node send word m (with_said (answer_of word) said) h (said_safe plan.code (length m.heap) word said p)
  told_sure node send said m (deed.Chooses a) h p = h
  told_sure node send said m (deed.Tests a) h p = h

  then_sure : (st : Stepped) (rest : Machine → Stepped) (stop : Stop) → st.stop ≡ stop → SureAt stop st.machine → (IsSure st.machine → SureAt (rest st.machine).stop (rest st.machine).machine) → SureAt (then_steps st rest stop).stop (then_steps st rest stop).machine
  then_sure st rest RunsOn e h k = k h
  then_sure st rest (Stops how) e h k = subst (λ z. SureAt z st.machine) (sym e) h

  steps_sure : (n : ℕ) (e : Exit) (statements : List Statement) (m : Machine) → IsSure m → AllByRecursion (λ (s : Statement). PlainDeed s.deed) statements → SureAt (steps plan n e statements m).stop (steps plan n e statements m).machine
  unfolding steps
  steps_sure n e [] m h p = h
  steps_sure n e (s ∷ rest) m h p =
      let st : Stepped = step plan n e s m in
      then_sure st (steps plan n e rest) st.stop refl (deed_sure n e s.node s.send m s.deed h p.0) (λ g. steps_sure n e rest st.machine g p.1)

  -- ---- blocks

  done_sure : (e : Exit) (st : Stepped) (stop : Stop) → SureAt stop st.machine → SureHow (how_of e stop) st.machine
  done_sure e st RunsOn h = h
  done_sure e st (Stops how) h = h

  block_there : (blocks : List Block) (n : ℕ) (b : Block) → AllByRecursion IsPlainBlock blocks → slice_get blocks n ≡ Some b → IsPlainBlock b
  block_there [] n b all e = absurd (let x : ⊥ = cc in x)
  block_there (x ∷ blocks) zero b all e = subst IsPlainBlock (let y : x ≡ b = cc in y) all.0
  block_there (x ∷ blocks) (suc n) b all e = block_there blocks n b all.1 e

  plain_block : IsPlainPlan plan → (n : ℕ) (b : Block) → block_at plan.blocks.blocks n ≡ Some b → IsPlainBlock b
  plain_block plain zero b e = absurd (let x : ⊥ = cc in x)
  plain_block plain (suc n) b e = block_there plan.blocks.blocks n b plain e

module _ (Q W : Type 0) (plan : Plan) (plain : IsPlainPlan plan) where
  abbrev Sure : Step Q (One W) → Type 0
  Sure x = SureStep x

  after_sure : (o : One W) (ran : List Ran) (m : Machine) (how : How) → SureHow plan how m → Sure (one_after o ran m how)
  after_sure o ran m (Next n) h = h
  after_sure o ran m (Fell t) h = tt
  after_sure o ran m (Awaits op s) h = h

  end_sure : (last : Bool) (o : One W) → IsSure o.machine → Sure (one_end last plan o)
  end_sure true o h = h
  end_sure false o h = left_sure plan None o.machine tt h

  at_sure : (x : Option Block) (o : One W) → ((b : Block) → x ≡ Some b → IsPlainBlock b) → IsSure o.machine → Sure (one_at plan x o)
  at_sure None o p h = end_sure (is_last o.machine.control) o h
  at_sure (Some b) o p h =
      let st : Stepped = steps plan o.block b.exit b.statements o.machine in
      let d : Done = block_run plan o.block b o.machine in
      after_sure o d.ran d.machine d.how (done_sure plan b.exit st st.stop (steps_sure plan o.block b.exit b.statements o.machine h (p b refl)))

  pass_sure : (o : One W) → IsSure o.machine → IsSure (pass plan o).machine
  pass_sure o h = pick (same_side o.side (side_next plan o.block o.machine.control o.side))
    where
      pick : (b : Bool) → IsSure (passed_if b plan o).machine
      pick true = h
      pick false = record { cells = h.cells; frames = settled_leads (length o.machine.heap) o.machine.control.frames h.frames; room = h.room }

  step_sure : (o : One W) → IsSure o.machine → Sure (one_step plan o)
  step_sure o h = at_sure (block_at plan.blocks.blocks o.block) (pass plan o) (λ b e. plain_block plan plain o.block b e) (pass_sure o h)

  -- ---- what is said

  answers_sure : (x : Option Block) (s : Statement) (said : Said) (o : One W) → IsSure o.machine → PlainSaid said → Sure (one_answers plan x s said o)
  answers_sure None s said o h p = h
  answers_sure (Some b) s said o h p =
      let st : Stepped = answered plan s said o.machine in
      let d : Done = block_answered plan b s said o.machine in
      after_sure o d.ran d.machine d.how (done_sure plan b.exit st st.stop (told_sure plan s.node s.send said o.machine s.deed h p))

  abbrev PlainTold : Outcome Q (Shared W) Said → Type 0
  PlainTold (Gives said g) = PlainSaid said
  PlainTold _ = Unit {0}

  plain_told : (ask : Ask Q W) → IsPlainAsk ask → (op : TableOp) (g : Shared W) → PlainTold (told ask op g)
  plain_told ask plainly op g = pick (nat_lt g.operations max_operations)
    where
      given_answer : (x : Outcome Q W Answer) → ask op g.world ≡ x → PlainTold (then_run (in_world (counted g) x) (λ answer. pure (Answers answer)))
      given_answer (Gives answer world) e = plainly g.world world op answer e
      given_answer (Throws t world) e = tt
      given_answer (LeavesOpen q world) e = tt

      pick : (may : Bool) → PlainTold (if may then (asked ask op >>= (λ answer. pure (Answers answer))) (counted g) else Gives Out g)
      pick true = given_answer (ask op g.world) refl
      pick false = tt

  heard_sure : (s : Statement) (o : One W) (x : Outcome Q (Shared W) Said) → IsSure o.machine → PlainDeed s.deed → PlainTold x → Sure (one_told plan s o x)
  heard_sure s o (Gives said g) h p q = answers_sure (block_at plan.blocks.blocks o.block) s said (one_hears said (with_asked g o)) h q
  heard_sure s o (Throws t g) h p q = tt
  heard_sure s o (LeavesOpen r g) h p q = (h, p)

  asked_sure : (ask : Ask Q W) → IsPlainAsk ask → (x : Step Q (One W)) → Sure x → Sure (one_asks plan ask x)
  asked_sure ask plainly (Goes o) h = h
  asked_sure ask plainly (Ended o) h = h
  asked_sure ask plainly (Falls t o) h = tt
  asked_sure ask plainly (Waits op s o) h = heard_sure s o (told ask op (shared_of o)) h.0 h.1 (plain_told ask plainly op (shared_of o))
  asked_sure ask plainly (Asks q s o) h = h

  -- ---- any number of blocks

  on_sure : (ask : Ask Q W) (n : ℕ) → ((o : One W) → IsSure o.machine → Sure (one_run plan ask n o)) → (x : Step Q (One W)) → Sure x → Sure (goes_on (one_run plan ask n) x)
  on_sure ask n rest (Goes o) h = rest o h
  on_sure ask n rest (Ended o) h = h
  on_sure ask n rest (Falls t o) h = tt
  on_sure ask n rest (Waits op s o) h = h
  on_sure ask n rest (Asks q s o) h = h

  run_sure : (ask : Ask Q W) → IsPlainAsk ask → (n : ℕ) (o : One W) → IsSure o.machine → Sure (one_run plan ask n o)
  unfolding one_run one_moves
  run_sure ask plainly zero o h = h
  run_sure ask plainly (suc n) o h = on_sure ask n (run_sure ask plainly n) (one_moves plan ask o) (asked_sure ask plainly (one_step plan o) (step_sure o h))

pub runs_stay_sure : (Q W : Type 0) → RunsStaySure Q W
runs_stay_sure Q W plan ask n o plain plainly h = run_sure Q W plan plain ask plainly n o h
