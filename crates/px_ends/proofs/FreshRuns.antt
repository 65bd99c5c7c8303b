-- A run on the one machine, with its messages, reads nothing that is stale.
use Rattle.std.proofs.Common.{◌≡◌, ℕ, zero, suc, Bool, true, false, cond, ◌&&◌, ◌||◌, List, [], ◌∷◌, ◌++◌, map, Option, Some, None, is_some, Ok, Err, refl, sym, ap, ◌∙◌, subst, ◌⊎◌, inl, inr}
use Rattle.std.specs.List.{AllByRecursion}
use Rattle.std.proofs.lemmas.Bool.{or_cases, cases_Bool}
use Rattle.px_value.specs.declared.value.Value.{Value}
use Rattle.px_value.specs.declared.object.Object.{Object}
use Rattle.px_value.specs.Heap.{cell_at}
use Rattle.px_value.specs.Operators.{Applied}
use Rattle.px_value.specs.Outcome.{Outcome, Gives, Throws, Asks as LeavesOpen}
use Rattle.px_blocks.specs.declared.side.Side.{Side}
use Rattle.px_blocks.specs.declared.side.Side.TheVariants.{App, Db}
use Rattle.px_blocks.specs.declared.block.Block.{Block}
use Rattle.px_blocks.specs.declared.block.Deed.{Deed}
use Rattle.px_blocks.specs.declared.block.Deed.TheVariants as deed
use Rattle.px_blocks.specs.declared.block.Exit.{Exit}
use Rattle.px_blocks.specs.declared.block.Naming.{Naming}
use Rattle.px_blocks.specs.declared.block.Send.{Send}
use Rattle.px_blocks.specs.declared.block.Statement.{Statement}
use Rattle.px_blocks.specs.Sides.{other, same_side, same_cell}
use Rattle.px_effects.specs.Act.{Place as Cell, Act, header_at, Acted, acted, Landed, landed}
use Rattle.px_effects.specs.Run.{Shared, Ask}
use Rattle.px_effects.specs.Operations.{Acts, Operates, Said, told, with_said}
use Rattle.px_normal.specs.declared.word.Word.{Word}
use Rattle.px_normal.specs.Run.{Ran}
use Rattle.px_normal.specs.Words.{Does, Works, Invokes, operand, does_of, answer_of, to_of, is_return, result_of, is_true}
use Rattle.px_blocks.specs.Plan.{Plan, firsts_of, kept}
use Rattle.px_blocks.specs.Machine.{top, marked, named, with_marks, with_names, namings, Control, Machine, values_of, also_marked, put_in_slot, sent, How, Next, Fell, Waits as Awaits, Left, goes, turned, called, chosen, entry_of, left_with, Stop, RunsOn, Stops, Stepped, ran_of, leaves, after_act, valued_if, valued, act_step, does_step, deed_step, step, told_step, answered, then_steps, steps, how_of, Done, done, block_at, block_run, block_answered, end_left, is_last}
use Rattle.px_blocks.specs.Message.{CellAt, with_value, valued as with_values, carried, in_order, updates, transfer, handed}
use Rattle.px_blocks.specs.One.{Happening, Did, Sent, AskedAt, ToldAt, Aborted, One, Step, Goes, Ended, Falls, Waits, Asks, side_next, shared_of, with_asked, passed, passed_if, pass, one_after, one_end, one_at, one_step, one_hears, one_answers, one_answer, one_told, one_asks, one_moves, goes_on, one_run, one_begun}
use Rattle.px_ends.specs.Agree.{AllNamed}
use Rattle.px_ends.specs.Runs.{IsKept, SendsName, SendsOf, SendsIf, IsGood, GoodDoes, GoodDeed, GoodTold, IsGoodTold, MeetsRest, MeetsTold, MeetsAsked, MeetsOn, GoodSteps, GoodBlock, GoodStep, GoodAnswer, MeetsRun, GoodRun}
use Rattle.px_ends.specs.Calls.{one_kept}
use Rattle.px_ends.specs.Stale.{Event, Brought, NoneStale, with_reads, with_writes, with_ran, place_of, places_in, with_happening, events_after, is_stale, IsCurrent, IsFresh, story_of, NothingStale, NewIsFresh, events_kept, SessionNothingStale}
use Rattle.px_ends.proofs.Places.{header_some, marked_join, marked_with, marked_carried, marked_ordered, same_cell_true}
use Rattle.px_ends.proofs.HeapSteps.{other_other}
use Rattle.px_ends.proofs.Acts.{stays, kept_before}
use Rattle.px_ends.proofs.StackSteps.{Leaves, goes_leaves, turned_leaves, called_leaves, left_leaves}
use Rattle.px_ends.proofs.Steps.{named_after}
use Rattle.px_ends.proofs.RunsAgree.{at_end}
use Rattle.px_ends.proofs.Current.{stale_reads, own_writes, other_writes, none_writes, none_reads, with_ran_join, cells_stay, writes_there, reads_fresh}

-- what holds of the one machine as a run goes on
pub record Fine (plan : Plan) (side : Side) (c : Control) (heap : List Object) (events : List Event) : Type 0 where
  pub named : AllNamed plan side c heap
  pub exist : (o i : ℕ) → marked c.marks o i ≡ true → is_some (cell_at heap o i) ≡ true
  pub current : IsCurrent plan side c heap events

or_false : (a b : Bool) → (a || b) ≡ false → (a ≡ false) × (b ≡ false)
or_false true b h = cc
or_false false b h = (refl, h)

-- ---- a statement

module _ (plan : Plan) (side : Side) (act : Act) (c : Control) (heap : List Object) (events : List Event) where
  abbrev a : Acted
  a = acted (firsts_of plan.code) act heap

  abbrev later : List Event
  later = with_writes side a.writes (with_reads side a.reads events)

  reads_none : Fine plan side c heap events → AllByRecursion (IsKept plan side a.heap) a.reads → NoneStale later
  reads_none f k = let cur = f.current in none_writes side a.writes (with_reads side a.reads events) (none_reads side a.reads events (reads_fresh plan side act heap events cur.here a.reads k) cur.none)

  -- the control after it has the new marks and names
  acts_fine : (d : Control) (send : Option Send) (e : Control) → Fine plan side c heap events → AllByRecursion (IsKept plan side a.heap) a.reads → SendsName plan side a.heap a.writes send e
      → d.marks ≡ with_marks a.writes c.marks → d.named ≡ with_names (namings send (values_of e)) c.named → Fine plan side d a.heap later
  acts_fine d send e f k sends marks names = record {
    named = λ o i m q.
        ap (λ (ns : List Naming). named plan (header_at a.heap o) ns o i) names
        ∙ named_after plan side c e heap a.heap a.writes send f.named (λ x y z. header_some heap x y (f.exist x y z)) (stays plan act heap) sends o i (ap (λ (ms : List Cell). marked ms o i) (sym marks) ∙ m) q;
    exist = λ o i m. there o i (or_cases (marked c.marks o i) (marked a.writes o i) (sym (joined o i) ∙ m));
    current = record {
      here = λ o i q. own_writes side a.writes (with_reads side a.reads events) o i (stale_reads side a.reads events side o i ∙ cur.here o i (kept_before plan side act heap o i q));
      there = λ o i q m.
          let p = or_false (marked c.marks o i) (marked a.writes o i) (sym (joined o i) ∙ m) in
          other_writes side (other side) a.writes (with_reads side a.reads events) o i p.1 ∙ stale_reads side a.reads events (other side) o i ∙ cur.there o i (kept_before plan (other side) act heap o i q) p.0;
      none = reads_none f k;
    };
  }
    where
      cur : IsCurrent plan side c heap events
      cur = f.current

      joined : (o i : ℕ) → marked d.marks o i ≡ (marked c.marks o i || marked a.writes o i)
      joined o i = ap (λ (ms : List Cell). marked ms o i) marks ∙ marked_with a.writes c.marks o i ∙ marked_join c.marks a.writes o i

      there : (o i : ℕ) → (marked c.marks o i ≡ true) ⊎ (marked a.writes o i ≡ true) → is_some (cell_at a.heap o i) ≡ true
      there o i (inl e) = cells_stay plan act heap o i (f.exist o i e)
      there o i (inr e) = writes_there plan act heap o i e

module _ (plan : Plan) (side : Side) where
  -- after a throw only what was read matters
  abbrev FineBy : How → Machine → List Event → Type 0
  FineBy (Fell t) m events = NoneStale events
  FineBy _ m events = Fine plan side m.control m.heap events

  abbrev FineAt : Stop → Machine → List Event → Type 0
  FineAt RunsOn m events = Fine plan side m.control m.heap events
  FineAt (Stops how) m events = FineBy how m events

  abbrev FineAfter : List Event → Stepped → Type 0
  FineAfter events st = FineAt st.stop st.machine (with_ran side st.ran events)

  by_how : (h : How) (m : Machine) (events : List Event) → Fine plan side m.control m.heap events → FineBy h m events
  by_how (Next n) m events f = f
  by_how (Fell t) m events f = let cur = f.current in cur.none
  by_how (Awaits op s) m events f = f

  -- ---- an act, and where its value goes

  no_writes : (heap : List Object) (writes : List Cell) (d : Control) → writes ≡ [] → SendsName plan side heap writes None d
  no_writes heap writes d none o i w k = absurd (unmarked (sym (ap (λ (ms : List Cell). marked ms o i) none) ∙ w))
    where
      unmarked : false ≡ true → ⊥
      unmarked e = cc

  valued_fine : (over : Bool) (node : ℕ) (send : Option Send) (word : Word) (v : Value) (m : Machine) (l : Landed) (act : Act) (events : List Event) → Fine plan side m.control m.heap events
      → AllByRecursion (IsKept plan side (acted (firsts_of plan.code) act m.heap).heap) (acted (firsts_of plan.code) act m.heap).reads
      → SendsOf over plan side send word (acted (firsts_of plan.code) act m.heap) v m.control
      → FineAfter events (valued_if over plan.blocks.blocks send word (ran_of node (acted (firsts_of plan.code) act m.heap).reads (acted (firsts_of plan.code) act m.heap).writes) v (after_act (acted (firsts_of plan.code) act m.heap) l m))
  valued_fine true node send word v m l act events f k sends =
      let b : Acted = acted (firsts_of plan.code) act m.heap in
      let now : Control = also_marked b.writes m.control in
      let out : Left = left_with plan.blocks.blocks (result_of word v) now in
      let same = left_leaves plan (result_of word v) now in
      let marks = same.marks in
      acts_fine plan side act m.control m.heap events out.control None m.control f k (no_writes b.heap b.writes m.control sends) marks.marks_are marks.names_are
  valued_fine false node send word v m l act events f k sends = pick (to_of word) sends
    where
      b : Acted
      b = acted (firsts_of plan.code) act m.heap

      now : Control
      now = also_marked b.writes m.control

      pick : (to : Option ℕ) → SendsName plan side b.heap b.writes send (put_in_slot (top m.control.frames) to v m.control) → Fine plan side (sent send (put_in_slot (top now.frames) to v now)) b.heap (with_writes side b.writes (with_reads side b.reads events))
      pick None s = acts_fine plan side act m.control m.heap events (sent send now) send m.control f k s refl refl
      pick (Some n) s = acts_fine plan side act m.control m.heap events (sent send (put_in_slot (top now.frames) (Some n) v now)) send (put_in_slot (top m.control.frames) (Some n) v m.control) f k s refl refl

  applied_fine : (node : ℕ) (send : Option Send) (word : Word) (x : Applied) (m : Machine) (l : Landed) (act : Act) (events : List Event) → Fine plan side m.control m.heap events
      → AllByRecursion (IsKept plan side (acted (firsts_of plan.code) act m.heap).heap) (acted (firsts_of plan.code) act m.heap).reads
      → SendsIf plan side send word (acted (firsts_of plan.code) act m.heap) x m.control
      → FineAfter events (valued plan.blocks.blocks send word (ran_of node (acted (firsts_of plan.code) act m.heap).reads (acted (firsts_of plan.code) act m.heap).writes) (after_act (acted (firsts_of plan.code) act m.heap) l m) x)
  applied_fine node send word (Ok v) m l act events f k sends = valued_fine (is_return word) node send word v m l act events f k sends
  applied_fine node send word (Err t) m l act events f k sends = reads_none plan side act m.control m.heap events f k

  act_fine : (node : ℕ) (send : Option Send) (word : Word) (m : Machine) (act : Act) (events : List Event) → Fine plan side m.control m.heap events → IsGood plan side send word act m → FineAfter events (act_step plan node send word m act)
  act_fine node send word m act events f good =
      let l : Landed = landed m.prints (acted (firsts_of plan.code) act m.heap).ends in
      applied_fine node send word l.value m l act events f good.reads good.sends

  -- ---- a statement that leaves its block

  leaves_fine : (c d : Control) (heap : List Object) (events : List Event) → Leaves plan c d → Fine plan side c heap events → Fine plan side d heap events
  leaves_fine c d heap events same f =
      let e = same.marks in
      let cur = f.current in
      record {
        named = λ o i m k. ap (λ (ns : List Naming). named plan (header_at heap o) ns o i) e.names_are ∙ f.named o i (ap (λ (ms : List Cell). marked ms o i) (sym e.marks_are) ∙ m) k;
        exist = λ o i m. f.exist o i (ap (λ (ms : List Cell). marked ms o i) (sym e.marks_are) ∙ m);
        current = record { here = cur.here; there = λ o i k m. cur.there o i k (ap (λ (ms : List Cell). marked ms o i) (sym e.marks_are) ∙ m); none = cur.none };
      }

  left_fine : (node : ℕ) (m : Machine) (l : Left) (events : List Event) → Leaves plan m.control l.control → Fine plan side m.control m.heap events → FineAfter events (leaves node m l)
  left_fine node m l events same f = by_how l.how (record m { control = l.control }) events (leaves_fine m.control l.control m.heap events same f)

  -- ---- statements

  does_fine : (n : ℕ) (e : Exit) (node : ℕ) (send : Option Send) (word : Word) (m : Machine) (d : Does) (events : List Event) → Fine plan side m.control m.heap events → GoodDoes plan side send word m d → FineAfter events (does_step plan n e node send word m d)
  does_fine n e node send word m (Works (Acts act)) events f good = act_fine node send word m act events f good
  does_fine n e node send word m (Works (Operates op)) events f good = f
  does_fine n e node send word m (Invokes method values) events f good = left_fine node m (called plan.code (entry_of e) method n values m.control) events (called_leaves plan (entry_of e) method n values m.control) f

  deed_fine : (n : ℕ) (e : Exit) (node : ℕ) (send : Option Send) (m : Machine) (d : Deed) (events : List Event) → Fine plan side m.control m.heap events → GoodDeed plan side send m d → FineAfter events (deed_step plan n e node send m d)
  deed_fine n e node send m (deed.Does word) events f good = does_fine n e node send word m (does_of plan.code word (values_of m.control)) events f good
  deed_fine n e node send m (deed.Chooses x) events f good = left_fine node m (goes (chosen e (is_true (operand (values_of m.control) x))) m.control) events (goes_leaves plan m.control) f
  deed_fine n e node send m (deed.Tests x) events f good = let to = chosen e (is_true (operand (values_of m.control) x)) in left_fine node m (turned (goes to) m.control) events (turned_leaves plan to m.control) f

  told_fine : (node : ℕ) (send : Option Send) (said : Said) (m : Machine) (d : Deed) (events : List Event) → Fine plan side m.control m.heap events → GoodTold plan side send said m d → FineAfter events (told_step plan node send said m d)
  told_fine node send said m (deed.Does word) events f good = act_fine node send word m (with_said (answer_of word) said) events f good
  told_fine node send said m (deed.Chooses x) events f good = f
  told_fine node send said m (deed.Tests x) events f good = f

  then_fine : (st : Stepped) (rest : Machine → Stepped) (P : Type 0) (stop : Stop) (events : List Event) → st.stop ≡ stop → FineAt stop st.machine (with_ran side st.ran events) → MeetsRest stop P
      → (Fine plan side st.machine.control st.machine.heap (with_ran side st.ran events) → P → FineAfter (with_ran side st.ran events) (rest st.machine)) → FineAfter events (then_steps st rest stop)
  then_fine st rest P RunsOn events e f good k =
      let after : Stepped = rest st.machine in
      subst (λ (es : List Event). FineAt after.stop after.machine es) (sym (with_ran_join side st.ran after.ran events)) (k f good)
  then_fine st rest P (Stops how) events e f good k = subst (λ z. FineAt z st.machine (with_ran side st.ran events)) (sym e) f

  steps_fine : (n : ℕ) (e : Exit) (statements : List Statement) (m : Machine) (events : List Event) → Fine plan side m.control m.heap events → GoodSteps plan side n e statements m → FineAfter events (steps plan n e statements m)
  unfolding steps
  steps_fine n e [] m events f good = f
  steps_fine n e (s ∷ rest) m events f good =
      let st : Stepped = step plan n e s m in
      then_fine st (steps plan n e rest) (GoodSteps plan side n e rest st.machine) st.stop events refl (deed_fine n e s.node s.send m s.deed events f good.0) good.1 (steps_fine n e rest st.machine (with_ran side st.ran events))

  -- ---- blocks

  abbrev FineDone : List Event → Done → Type 0
  FineDone events d = FineBy d.how d.machine (with_ran side d.ran events)

  by_stop : (e : Exit) (stop : Stop) (m : Machine) (events : List Event) → FineAt stop m events → FineBy (how_of e stop) m events
  by_stop e RunsOn m events f = f
  by_stop e (Stops how) m events f = f

  done_fine : (e : Exit) (st : Stepped) (events : List Event) → FineAfter events st → FineDone events (done e st)
  done_fine e st events f = by_stop e st.stop st.machine (with_ran side st.ran events) f

  block_fine : (n : ℕ) (b : Block) (m : Machine) (events : List Event) → Fine plan side m.control m.heap events → GoodSteps plan side n b.exit b.statements m → FineDone events (block_run plan n b m)
  block_fine n b m events f good = done_fine b.exit (steps plan n b.exit b.statements m) events (steps_fine n b.exit b.statements m events f good)

  block_answer_fine : (b : Block) (s : Statement) (said : Said) (m : Machine) (events : List Event) → Fine plan side m.control m.heap events → GoodTold plan side s.send said m s.deed → FineDone events (block_answered plan b s said m)
  block_answer_fine b s said m events f good = done_fine b.exit (answered plan s said m) events (told_fine s.node s.send said m s.deed events f good)

  end_fine : (m : Machine) (events : List Event) → Fine plan side m.control m.heap events → FineDone events (end_left plan m)
  end_fine m events f =
      let l : Left = left_with plan.blocks.blocks None m.control in
      by_how l.how (record m { control = l.control }) events (leaves_fine m.control l.control m.heap events (left_leaves plan None m.control) f)

-- ---- a message

with_place : (v : Option Value) (heap : List Object) (c : Cell) (us : List CellAt) (o i : ℕ) (b : Bool) → (same_cell c.object c.index o i ≡ true → is_some v ≡ true) → marked (map place_of us) o i ≡ b → marked (map place_of (with_value v c us)) o i ≡ (same_cell c.object c.index o i || b)
with_place None heap c us o i b e r = pick (same_cell c.object c.index o i) e r
  where
    pick : (s : Bool) → (s ≡ true → false ≡ true) → marked (map place_of us) o i ≡ b → marked (map place_of us) o i ≡ (s || b)
    pick true e r = let q = e refl in cc
    pick false e r = r
with_place (Some v) heap c us o i b e r = ap (λ z. same_cell c.object c.index o i || z) r

valued_places : (heap : List Object) (cs : List Cell) (o i : ℕ) → is_some (cell_at heap o i) ≡ true → marked (map place_of (with_values heap cs)) o i ≡ marked cs o i
valued_places heap [] o i e = refl
valued_places heap (c ∷ cs) o i e = with_place (cell_at heap c.object c.index) heap c (with_values heap cs) o i (marked cs o i)
    (λ q. let p = same_cell_true c.object c.index o i q in (λ k. is_some (cell_at heap (sym p.0 k) (sym p.1 k))) ∙ e)
    (valued_places heap cs o i e)

-- what is marked and named is brought
brings : (plan : Plan) (c : Control) (heap : List Object) (o i : ℕ) → is_some (cell_at heap o i) ≡ true → marked c.marks o i ≡ true → named plan (header_at heap o) c.named o i ≡ true → marked (places_in (updates plan c heap)) o i ≡ true
brings plan c heap o i e m n =
    valued_places heap (in_order (carried plan heap c.named c.marks)) o i e
    ∙ marked_ordered (carried plan heap c.named c.marks) o i
    ∙ marked_carried plan heap c.named c.marks o i
    ∙ (λ k. m k && n k)

same_itself : (side : Side) → same_side side side ≡ true
same_itself App = refl
same_itself Db = refl

other_differs : (side : Side) → same_side (other side) side ≡ false
other_differs App = refl
other_differs Db = refl

-- after the message of a side, the other one has the last write of what it keeps, and it itself too
pub brought_there : (plan : Plan) (side : Side) (c : Control) (heap : List Object) (events : List Event) → Fine plan side c heap events → (o i : ℕ) → kept plan (other side) (header_at heap o) i ≡ true → is_stale (Brought (other side) (places_in (updates plan c heap)) ∷ events) (other side) o i ≡ false
brought_there plan side c heap events f o i k = pick (cases_Bool (marked c.marks o i))
  where
    cells : List Cell
    cells = places_in (updates plan c heap)

    pick : (marked c.marks o i ≡ true) ⊎ (marked c.marks o i ≡ false) → cond (same_side (other side) (other side) && marked cells o i) false (is_stale events (other side) o i) ≡ false
    pick (inl m) = λ j. cond (same_itself (other side) j && brings plan c heap o i (f.exist o i m) m (f.named o i m k) j) false (is_stale events (other side) o i)
    pick (inr m) = either (same_side (other side) (other side) && marked cells o i) (let cur = f.current in cur.there o i k m)
      where
        either : (b : Bool) → is_stale events (other side) o i ≡ false → cond b false (is_stale events (other side) o i) ≡ false
        either true e = refl
        either false e = e

pub brought_here : (plan : Plan) (side : Side) (c : Control) (heap : List Object) (events : List Event) → Fine plan side c heap events → (o i : ℕ) → kept plan side (header_at heap o) i ≡ true → is_stale (Brought (other side) (places_in (updates plan c heap)) ∷ events) side o i ≡ false
brought_here plan side c heap events f o i k = let cur = f.current in (λ j. cond (other_differs side j && marked (places_in (updates plan c heap)) o i) false (is_stale events side o i)) ∙ cur.here o i k

-- ---- a run

events_join : (story more : List Happening) (events : List Event) → events_after (story ++ more) events ≡ events_after more (events_after story events)
events_join [] more events = refl
events_join (h ∷ story) more events = events_join story more (with_happening h events)

module _ (Q W : Type 0) (plan : Plan) (events : List Event) where
  abbrev pub FineOne : One W → Type 0
  FineOne o = Fine plan o.side o.machine.control o.machine.heap (events_after o.story events)

  abbrev pub FineStep : Step Q (One W) → Type 0
  FineStep (Goes o) = FineOne o
  FineStep (Ended o) = FineOne o × (o.side ≡ App)
  FineStep (Falls t o) = NoneStale (events_after o.story events)
  FineStep (Waits op s o) = FineOne o
  FineStep (Asks q s o) = FineOne o

  -- more happened that changed no cell
  more : (story happened : List Happening) (side : Side) (c : Control) (heap : List Object) → Fine plan side c heap (events_after happened (events_after story events)) → Fine plan side c heap (events_after (story ++ happened) events)
  more story happened side c heap f = subst (λ (es : List Event). Fine plan side c heap es) (sym (events_join story happened events)) f

  passed_fine : (o : One W) → FineOne o → FineOne (passed plan o)
  passed_fine o f =
      let m : Machine = o.machine in
      let old : List Event = events_after o.story events in
      let cur = f.current in
      more o.story (Sent (other o.side) (transfer plan o.block m.control m.heap) ∷ []) (other o.side) (handed m).control m.heap (record {
        named = λ x i e. absurd (unmarked e);
        exist = λ x i e. absurd (unmarked e);
        current = record {
          here = brought_there plan o.side m.control m.heap old f;
          there = λ x i k e. ap (λ z. is_stale (Brought (other o.side) (places_in (updates plan m.control m.heap)) ∷ old) z x i) (other_other o.side) ∙ brought_here plan o.side m.control m.heap old f x i (ap (λ z. kept plan z (header_at m.heap x) i) (sym (other_other o.side)) ∙ k);
          none = cur.none;
        };
      })
    where
      unmarked : false ≡ true → ⊥
      unmarked e = cc

  pass_fine : (o : One W) → FineOne o → FineOne (pass plan o)
  pass_fine o f = pick (same_side o.side (side_next plan o.block o.machine.control o.side))
    where
      pick : (b : Bool) → FineOne (passed_if b plan o)
      pick true = f
      pick false = passed_fine o f

  after_fine : (o : One W) (ran : List Ran) (m : Machine) (how : How) → FineBy plan o.side how m (with_ran o.side ran (events_after o.story events)) → FineStep (one_after o ran m how)
  after_fine o ran m (Next n) f = more o.story (Did o.side ran ∷ []) o.side m.control m.heap f
  after_fine o ran m (Fell t) f = subst NoneStale (sym (events_join o.story (Did o.side ran ∷ Aborted o.side t ∷ []) events)) f
  after_fine o ran m (Awaits op s) f = more o.story (Did o.side ran ∷ AskedAt o.side op ∷ []) o.side m.control m.heap f

  last_fine : (b : Bool) (o : One W) → FineOne o → (b ≡ true → o.side ≡ App) → FineStep (one_end b plan o)
  last_fine true o f e = (f, e refl)
  last_fine false o f e = let d : Done = end_left plan o.machine in after_fine o d.ran d.machine d.how (end_fine plan o.side o.machine (events_after o.story events) f)

  at_fine : (b : Option Block) (o : One W) → FineOne o → (b ≡ None → is_last o.machine.control ≡ true → o.side ≡ App) → GoodBlock plan b o → FineStep (one_at plan b o)
  at_fine None o f e good = last_fine (is_last o.machine.control) o f (e refl)
  at_fine (Some b) o f e good = let d : Done = block_run plan o.block b o.machine in after_fine o d.ran d.machine d.how (block_fine plan o.side o.block b o.machine (events_after o.story events) f good)

  step_fine : (o : One W) → FineOne o → GoodStep plan o → FineStep (one_step plan o)
  step_fine o f good = at_fine (block_at plan.blocks.blocks o.block) (pass plan o) (pass_fine o f) (at_end Q plan o) good

  -- ---- what is said

  answers_fine : (b : Option Block) (s : Statement) (said : Said) (o : One W) → FineOne o → GoodAnswer plan s said o → FineStep (one_answers plan b s said o)
  answers_fine None s said o f good = f
  answers_fine (Some b) s said o f good =
      let d : Done = block_answered plan b s said o.machine in
      after_fine o d.ran d.machine d.how (block_answer_fine plan o.side b s said o.machine (events_after o.story events) f good)

  answer_fine : (s : Statement) (said : Said) (o : One W) → FineOne o → GoodAnswer plan s said o → FineStep (one_answer plan s said o)
  answer_fine s said o f good = answers_fine (block_at plan.blocks.blocks o.block) s said (one_hears said o) (more o.story (ToldAt o.side said ∷ []) o.side o.machine.control o.machine.heap f) good

  heard_fine : (s : Statement) (o : One W) (x : Outcome Q (Shared W) Said) → FineOne o → MeetsTold (IsGoodTold plan) s o x → FineStep (one_told plan s o x)
  heard_fine s o (Gives said g) f good = answer_fine s said (with_asked g o) f good
  heard_fine s o (Throws t g) f good = let cur = f.current in subst NoneStale (sym (events_join o.story (Aborted o.side t ∷ []) events)) cur.none
  heard_fine s o (LeavesOpen q g) f good = f

  asked_fine : (ask : Ask Q W) (x : Step Q (One W)) → FineStep x → MeetsAsked (IsGoodTold plan) ask x → FineStep (one_asks plan ask x)
  asked_fine ask (Goes o) f good = f
  asked_fine ask (Ended o) f good = f
  asked_fine ask (Falls t o) f good = f
  asked_fine ask (Waits op s o) f good = heard_fine s o (told ask op (shared_of o)) f good
  asked_fine ask (Asks q s o) f good = f

  -- ---- any number of blocks

  abbrev RunFine : Ask Q W → ℕ → Type 0
  RunFine ask n = (o : One W) → FineOne o → GoodRun plan ask n o → FineStep (one_run plan ask n o)

  on_fine : (ask : Ask Q W) (n : ℕ) → RunFine ask n → (x : Step Q (One W)) → FineStep x → MeetsOn (GoodRun plan ask n) x → FineStep (goes_on (one_run plan ask n) x)
  on_fine ask n rest (Goes o) f good = rest o f good
  on_fine ask n rest (Ended o) f good = f
  on_fine ask n rest (Falls t o) f good = f
  on_fine ask n rest (Waits op s o) f good = f
  on_fine ask n rest (Asks q s o) f good = f

  moves_fine : (ask : Ask Q W) (o : One W) → FineOne o → GoodStep plan o → MeetsAsked (IsGoodTold plan) ask (one_step plan o) → FineStep (one_moves plan ask o)
  unfolding one_moves
  moves_fine ask o f good heard = asked_fine ask (one_step plan o) (step_fine o f good) heard

  pub run_fine : (ask : Ask Q W) (n : ℕ) → RunFine ask n
  unfolding one_run MeetsRun
  run_fine ask zero o f good = f
  run_fine ask (suc n) o f good = on_fine ask n (run_fine ask n) (one_moves plan ask o) (moves_fine ask o f good.0 good.1) good.2

  -- ---- a call

  pub begun_fine : (method : ℕ) (args : List Value) (heap : List Object) (world : W) → IsFresh plan heap events → FineOne (one_begun plan method args heap world)
  begun_fine method args heap world f = record {
    named = λ o i e. absurd (unmarked e);
    exist = λ o i e. absurd (unmarked e);
    current = record { here = f.at_app; there = λ o i k e. f.at_db o i k; none = f.none };
  }
    where
      unmarked : false ≡ true → ⊥
      unmarked e = cc

  no_stale : (s : Step Q (One W)) → FineStep s → NoneStale (events_after (story_of s) events)
  no_stale (Goes o) f = let cur = f.current in cur.none
  no_stale (Ended o) f = let g = f.0 in let cur = g.current in cur.none
  no_stale (Falls t o) f = f
  no_stale (Waits op s o) f = let cur = f.current in cur.none
  no_stale (Asks q s o) f = let cur = f.current in cur.none

pub nothing_stale : (Q W : Type 0) → NothingStale Q W
nothing_stale Q W plan ask method args n heap world events f good =
    no_stale Q W plan events (one_run plan ask n (one_begun plan method args heap world)) (run_fine Q W plan events ask n (one_begun plan method args heap world) (begun_fine Q W plan events method args heap world f) good)

-- ---- a session

pub new_is_fresh : NewIsFresh
new_is_fresh plan heap = record { at_app = λ o i k. refl; at_db = λ o i k. refl; none = tt }

committed_fresh : (plan : Plan) (side : Side) (c : Control) (heap : List Object) (events : List Event) → Fine plan side c heap events → side ≡ App → IsFresh plan heap (Brought Db (places_in (updates plan c heap)) ∷ events)
committed_fresh plan side c heap events f e =
    let g : Fine plan App c heap events = subst (λ z. Fine plan z c heap events) e f in
    let cur = g.current in
    record { at_app = brought_here plan App c heap events g; at_db = brought_there plan App c heap events g; none = cur.none }

kept_fresh : (Q W : Type 0) (plan : Plan) (heap : List Object) (events : List Event) (s : Step Q (One W)) → IsFresh plan heap events → FineStep Q W plan events s → IsFresh plan (one_kept heap s) (events_kept plan events s)
kept_fresh Q W plan heap events (Goes o) f g = f
kept_fresh Q W plan heap events (Ended o) f g = committed_fresh plan o.side o.machine.control o.machine.heap (events_after o.story events) g.0 g.1
kept_fresh Q W plan heap events (Falls t o) f g = f
kept_fresh Q W plan heap events (Waits op s o) f g = f
kept_fresh Q W plan heap events (Asks q s o) f g = f

pub session_nothing_stale : (Q W : Type 0) → SessionNothingStale Q W
session_nothing_stale Q W plan ask [] heap events f good = tt
session_nothing_stale Q W plan ask (a ∷ attempts) heap events f good =
    let o : One W = one_begun plan a.method a.args heap a.world in
    let call : Step Q (One W) = one_run plan ask a.blocks o in
    let g : FineStep Q W plan events call = run_fine Q W plan events ask a.blocks o (begun_fine Q W plan events a.method a.args heap a.world f) good.0 in
    (no_stale Q W plan events call g, session_nothing_stale Q W plan ask attempts (one_kept heap call) (events_kept plan events call) (kept_fresh Q W plan heap events call f g) good.1)
