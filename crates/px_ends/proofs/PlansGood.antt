-- What a plan keeps and sends is enough for each of its runs, and blocks have what their code has.
use Rattle.std.proofs.Common.{◌≡◌, ℕ, zero, suc, nat_lt, Bool, true, false, List, [], ◌∷◌, length, Option, Some, None, slice_get, Ok, Err, refl, sym, ap, ◌∙◌, subst}
use Rattle.std.specs.List.{AllByRecursion}
use Rattle.px_value.specs.declared.value.Value.{Value}
use Rattle.px_value.specs.Operators.{Applied}
use Rattle.px_blocks.specs.declared.side.Side.{Side}
use Rattle.px_normal.specs.declared.word.Word.{Word}
use Rattle.px_normal.specs.declared.method.Method.{Method}
use Rattle.px_normal.specs.declared.method.Tree.{Tree}
use Rattle.px_blocks.specs.declared.block.Block.{Block}
use Rattle.px_blocks.specs.declared.block.Deed.{Deed}
use Rattle.px_blocks.specs.declared.block.Deed.TheVariants as deed
use Rattle.px_blocks.specs.declared.block.Exit.{Exit}
use Rattle.px_blocks.specs.declared.block.Send.{Send}
use Rattle.px_blocks.specs.declared.block.Statement.{Statement}
use Rattle.px_effects.specs.Act.{acted, landed}
use Rattle.px_effects.specs.Operations.{Acts, Operates, Said}
use Rattle.px_normal.specs.Words.{Does, Works, Invokes, operand, does_of, is_return, is_true}
use Rattle.px_normal.specs.Run.{Ran}
use Rattle.px_value.specs.Outcome.{Outcome, Gives, Throws, Asks as LeavesOpen}
use Rattle.px_effects.specs.Run.{Shared, Ask}
use Rattle.px_effects.specs.Run.{max_turns}
use Rattle.px_effects.specs.Operations.{told}
use Rattle.px_blocks.specs.Plan.{Plan, firsts_of}
use Rattle.px_blocks.specs.Machine.{Control, Machine, values_of, block_at, chosen, entry_of, How, Next, Fell, Waits as Awaits, Left, goes, turned_if, pushed_if, max_stack, Stop, RunsOn, Stops, Stepped, ran_of, after_act, valued_if, valued, does_step, deed_step, step, then_steps, steps, how_of, Done, block_run, is_last}
use Rattle.px_blocks.specs.One.{One, Step, Goes, Ended, Falls, Waits, Asks, shared_of, side_of_block, pass, one_after, one_end, one_at, one_step, one_moves}
use Rattle.px_blocks.specs.declared.placed.Placed.{Placed}
use Rattle.px_blocks.specs.Rules.{Cutting, cutting, side_of, send_of as send_at, statement_of, Place, Amid, Anew, From, amid, anew, Joins, stays as joins_stays, begins as joins_begins, In, nothing, stays as in_stays, asks as in_asks, calls as in_calls, branches as in_branches, turns as in_turns, AreMethods, none, one}
use Rattle.px_blocks.specs.Has.{Has, does as has_do, chooses as has_if, tests as has_test, in_yes, in_no, in_first, in_body, behind}
use Rattle.px_ends.specs.Runs.{GoodDeed, GoodTold, IsGoodTold, MeetsRest, MeetsSteps, MeetsBlock, MeetsStep, MeetsTold, MeetsAsked, MeetsOn, MeetsRun, GoodSteps, GoodBlock, GoodStep, GoodRun}
use Rattle.px_ends.specs.Sends.{Leads, PlacedDeed, IsPlacedBlock, IsPlacedPlan, PointedDeed, PointedAnswer, PointedRun, PlansAreGood, CutIsPlaced}
use Rattle.px_ends.proofs.SendsGood.{placed_is_good, answered_is_good}
use Rattle.px_ends.proofs.Crossing.{there_now}

module _ (plan : Plan) (leads : ℕ → Leads) where
  abbrev Put : Side → Statement → Type 0
  Put side s = PlacedDeed plan (leads s.node) side s.send s.deed

  abbrev starts : Side → Statement → Machine → Type 0
  starts side s m = PointedDeed (leads s.node) m s.deed

  abbrev hears : Side → Statement → Said → Machine → Type 0
  hears side s said m = PointedAnswer (leads s.node) m.control s.deed

  -- ---- the statements of a block

  deed_good : (l : Leads) (side : Side) (send : Option Send) (m : Machine) (d : Deed) → PlacedDeed plan l side send d → PointedDeed l m d → GoodDeed plan side send m d
  deed_good l side send m (deed.Does word) p q = placed_is_good plan l side send word m p q
  deed_good l side send m (deed.Chooses a) p q = tt
  deed_good l side send m (deed.Tests a) p q = tt

  told_good : (l : Leads) (side : Side) (send : Option Send) (said : Said) (m : Machine) (d : Deed) → PlacedDeed plan l side send d → PointedAnswer l m.control d → GoodTold plan side send said m d
  told_good l side send said m (deed.Does word) p q = answered_is_good plan l side send word said m p q
  told_good l side send said m (deed.Chooses a) p q = tt
  told_good l side send said m (deed.Tests a) p q = tt

  rest_good : (stop : Stop) (P Q : Type 0) → (P → Q) → MeetsRest stop P → MeetsRest stop Q
  rest_good RunsOn P Q f p = f p
  rest_good (Stops how) P Q f p = tt

  steps_good : (side : Side) (n : ℕ) (e : Exit) (statements : List Statement) (m : Machine) → AllByRecursion (Put side) statements → MeetsSteps starts plan side n e statements m → GoodSteps plan side n e statements m
  steps_good side n e [] m put p = tt
  steps_good side n e (s ∷ rest) m put p =
      let st : Stepped = step plan n e s m in
      (deed_good (leads s.node) side s.send m s.deed put.0 p.0, rest_good st.stop (MeetsSteps starts plan side n e rest st.machine) (GoodSteps plan side n e rest st.machine) (steps_good side n e rest st.machine put.1) p.1)

  -- ---- the statement that waits is one of the block

  abbrev PutHow : Side → How → Type 0
  PutHow side (Awaits op s) = Put side s
  PutHow side _ = Unit {0}

  abbrev PutStop : Side → Stop → Type 0
  PutStop side (Stops how) = PutHow side how
  PutStop side RunsOn = Unit {0}

  valued_stops : (side : Side) (send : Option Send) (word : Word) (ran : List Ran) (m : Machine) (a : Applied) → PutStop side (valued plan.blocks.blocks send word ran m a).stop
  valued_stops side send word ran m (Err t) = tt
  valued_stops side send word ran m (Ok v) = by_return (is_return word)
    where
      by_return : (over : Bool) → PutStop side (valued_if over plan.blocks.blocks send word ran v m).stop
      by_return true = tt
      by_return false = tt

  turned_moves : (side : Side) (b : Bool) (f : Control → Left) (c : Control) → ((d : Control) → PutHow side (f d).how) → PutHow side (turned_if b f c).how
  turned_moves side true f c k = k _
  turned_moves side false f c k = tt

  pushed_moves : (side : Side) (b : Bool) (entry method back : ℕ) (args : List Value) (c : Control) → PutHow side (pushed_if b plan.code entry method back args c).how
  pushed_moves side true entry method back args c = tt
  pushed_moves side false entry method back args c = tt

  does_stops : (side : Side) (n : ℕ) (e : Exit) (node : ℕ) (send : Option Send) (word : Word) (m : Machine) (d : Does) → PlacedDeed plan (leads node) side send (deed.Does word) → PutStop side (does_step plan n e node send word m d).stop
  does_stops side n e node send word m (Works (Acts act)) p = let a = acted (firsts_of plan.code) act m.heap in let l = landed m.prints a.ends in valued_stops side send word (ran_of node a.reads a.writes) (after_act a l m) l.value
  does_stops side n e node send word m (Works (Operates op)) p = p
  does_stops side n e node send word m (Invokes method values) p = turned_moves side (nat_lt m.control.turns max_turns) (λ d. pushed_if (nat_lt (length d.frames) max_stack) plan.code (entry_of e) method n values d) m.control (λ d. pushed_moves side (nat_lt (length d.frames) max_stack) (entry_of e) method n values d)

  deed_stops : (side : Side) (n : ℕ) (e : Exit) (node : ℕ) (send : Option Send) (m : Machine) (d : Deed) → PlacedDeed plan (leads node) side send d → PutStop side (deed_step plan n e node send m d).stop
  deed_stops side n e node send m (deed.Does word) p = does_stops side n e node send word m (does_of plan.code word (values_of m.control)) p
  deed_stops side n e node send m (deed.Chooses a) p = tt
  deed_stops side n e node send m (deed.Tests a) p = turned_moves side (nat_lt m.control.turns max_turns) (goes (chosen e (is_true (operand (values_of m.control) a)))) m.control (λ d. tt)

  then_stops : (side : Side) (st : Stepped) (rest : Machine → Stepped) (stop : Stop) → st.stop ≡ stop → PutStop side stop → PutStop side (rest st.machine).stop → PutStop side (then_steps st rest stop).stop
  then_stops side st rest RunsOn e p q = q
  then_stops side st rest (Stops how) e p q = subst (PutStop side) (sym e) p

  steps_stop : (side : Side) (n : ℕ) (e : Exit) (statements : List Statement) (m : Machine) → AllByRecursion (Put side) statements → PutStop side (steps plan n e statements m).stop
  unfolding steps
  steps_stop side n e [] m put = tt
  steps_stop side n e (s ∷ rest) m put =
      let st : Stepped = step plan n e s m in
      then_stops side st (steps plan n e rest) st.stop refl (deed_stops side n e s.node s.send m s.deed put.0) (steps_stop side n e rest st.machine put.1)

  done_moves : (side : Side) (e : Exit) (stop : Stop) → PutStop side stop → PutHow side (how_of e stop)
  done_moves side e RunsOn p = tt
  done_moves side e (Stops how) p = p

module _ (plan : Plan) (leads : ℕ → Leads) where
  all_at : (blocks : List Block) (n : ℕ) (b : Block) → AllByRecursion (IsPlacedBlock plan leads) blocks → slice_get blocks n ≡ Some b → IsPlacedBlock plan leads b
  all_at [] n b all e = cc
  all_at (x ∷ blocks) zero b all e = subst (IsPlacedBlock plan leads) (let y : x ≡ b = cc in y) all.0
  all_at (x ∷ blocks) (suc n) b all e = all_at blocks n b all.1 e

  block_put : (n : ℕ) (b : Block) → IsPlacedPlan plan leads → block_at plan.blocks.blocks n ≡ Some b → IsPlacedBlock plan leads b
  block_put zero b all e = cc
  block_put (suc n) b all e = all_at plan.blocks.blocks n b all e

module _ (Q : Type 0) {W : Type 0} (plan : Plan) (leads : ℕ → Leads) where
  abbrev PutStep : Step Q (One W) → Type 0
  PutStep (Waits op s o) = Put plan leads o.side s
  PutStep _ = Unit {0}

  after_moves : (o : One W) (ran : List Ran) (m : Machine) (how : How) → PutHow plan leads o.side how → PutStep (one_after o ran m how)
  after_moves o ran m (Next n) p = tt
  after_moves o ran m (Fell t) p = tt
  after_moves o ran m (Awaits op s) p = p

  end_moves : (b : Bool) (o : One W) → PutStep (one_end b plan o)
  end_moves true o = tt
  end_moves false o = tt

  at_good : (x : Option Block) (o : One W) → ((b : Block) → x ≡ Some b → IsPlacedBlock plan leads b) → ((b : Block) → x ≡ Some b → o.side ≡ b.side) → MeetsBlock (starts plan leads) plan x o → GoodBlock plan x o × PutStep (one_at plan x o)
  at_good None o all e p = (tt, end_moves (is_last o.machine.control) o)
  at_good (Some b) o all e p =
      let put : AllByRecursion (Put plan leads o.side) b.statements = subst (λ z. AllByRecursion (Put plan leads z) b.statements) (sym (e b refl)) (all b refl) in
      let st : Stepped = steps plan o.block b.exit b.statements o.machine in
      let d : Done = block_run plan o.block b o.machine in
      (steps_good plan leads o.side o.block b.exit b.statements o.machine put p, after_moves o d.ran d.machine d.how (done_moves plan leads o.side b.exit st.stop (steps_stop plan leads o.side o.block b.exit b.statements o.machine put)))

  step_good : (o : One W) → IsPlacedPlan plan leads → MeetsStep (starts plan leads) plan o → GoodStep plan o × PutStep (one_step plan o)
  step_good o all p = at_good (block_at plan.blocks.blocks o.block) (pass plan o) (λ b e. block_put plan leads o.block b all e) (λ b e. there_now plan o ∙ ap (λ (x : Option Block). side_of_block x o.machine.control o.side) e) p

  -- ---- a run

  heard_good : (s : Statement) (o : One W) (t : Outcome Q (Shared W) Said) → Put plan leads o.side s → MeetsTold (hears plan leads) s o t → MeetsTold (IsGoodTold plan) s o t
  heard_good s o (Gives said g) put p = told_good plan leads (leads s.node) o.side s.send said o.machine s.deed put p
  heard_good s o (Throws t g) put p = tt
  heard_good s o (LeavesOpen q g) put p = tt

  asked_good : (ask : Ask Q W) (x : Step Q (One W)) → PutStep x → MeetsAsked (hears plan leads) ask x → MeetsAsked (IsGoodTold plan) ask x
  asked_good ask (Goes o) put p = tt
  asked_good ask (Ended o) put p = tt
  asked_good ask (Falls t o) put p = tt
  asked_good ask (Waits op s o) put p = heard_good s o (told ask op (shared_of o)) put p
  asked_good ask (Asks q s o) put p = tt

  on_good : (ask : Ask Q W) (n : ℕ) → ((o : One W) → PointedRun plan leads ask n o → GoodRun plan ask n o) → (x : Step Q (One W)) → MeetsOn (PointedRun plan leads ask n) x → MeetsOn (GoodRun plan ask n) x
  on_good ask n rest (Goes o) p = rest o p
  on_good ask n rest (Ended o) p = tt
  on_good ask n rest (Falls t o) p = tt
  on_good ask n rest (Waits op s o) p = tt
  on_good ask n rest (Asks q s o) p = tt

  run_good : (ask : Ask Q W) (n : ℕ) → IsPlacedPlan plan leads → (o : One W) → PointedRun plan leads ask n o → GoodRun plan ask n o
  unfolding MeetsRun
  run_good ask zero all o p = tt
  run_good ask (suc n) all o p =
      let g = step_good o all p.0 in
      (g.0, asked_good ask (one_step plan o) g.1 p.1, on_good ask n (run_good ask n all) (one_moves plan ask o) p.2)

pub plans_are_good : (Q W : Type 0) → PlansAreGood Q W
plans_are_good Q W plan leads ask n o all p = run_good Q plan leads ask n all o p

-- ---- blocks have what their code has

module _ (plan : Plan) (placed : Placed) (leads : ℕ → Leads) (c : Cutting) (same : c.placed ≡ placed) where
  abbrev PutNode : ℕ → Deed → Type 0
  PutNode node d = PlacedDeed plan (leads node) (side_of c.placed.sides node) (send_at c.placed.sends node) d

  abbrev All : List Block → Type 0
  All later = AllByRecursion (IsPlacedBlock plan leads) later

  abbrev HasPut : Place → Type 0
  HasPut (Amid made side over rest exit later) = AllByRecursion (Put plan leads side) rest × All later
  HasPut (Anew made to later) = All later

  module _ (m : ℕ) where
    from_put : (p : Place) (made to : ℕ) (later : List Block) → From p made to later → All later → HasPut p
    from_put p made to later (amid e) l = (tt, l)
    from_put p made to later anew l = l

    joins_put : (node : ℕ) (d : Deed) (p : Place) (made : ℕ) (side : Side) (over : Bool) (rest : List Statement) (exit : Exit) (later : List Block) → Joins c m (statement_of c.placed node d) p (Amid made side over rest exit later) → PutNode node d → HasPut (Amid made side over rest exit later) → HasPut p
    joins_put node d p made side over rest exit later (joins_stays e) put l = ((subst (λ z. PlacedDeed plan (leads node) z (send_at c.placed.sends node) d) (sym e) put, l.0), l.1)
    joins_put node d p made side over rest exit later (joins_begins away f) put l = from_put p _ _ _ f ((put, l.0), l.1)

    in_put : (p q : Place) (ts : List Tree) → In c m p ts q → ((node : ℕ) (d : Deed) → Has ts node d → PutNode node d) → HasPut q → HasPut p
    in_put p q ts nothing up l = l
    in_put p q ts (in_stays {node = node} {word = word} no_call no_operation j d) up l = joins_put node (deed.Does word) p _ _ _ _ _ _ j (up node (deed.Does word) has_do) (in_put _ q _ d (λ node d has. up node d (behind has)) l)
    in_put p q ts (in_asks {node = node} {word = word} is_op e j d) up l = joins_put node (deed.Does word) p _ _ _ _ _ _ j (up node (deed.Does word) has_do) (tt, in_put _ q _ d (λ node d has. up node d (behind has)) l)
    in_put p q ts (in_calls {node = node} j d) up l = joins_put node _ p _ _ _ _ _ _ j (up node _ has_do) (tt, in_put _ q _ d (λ node d has. up node d (behind has)) l)
    in_put p q ts (in_branches {py = py} {pn = pn} {node = node} {a = a} {ys = ys} {ns = ns} j dy fy dn fn d) up l =
        let ln = in_put _ pn _ dn (λ at d has. up at d (in_no node a ys has)) (from_put pn _ _ _ fn (in_put _ q _ d (λ node d has. up node d (behind has)) l)) in
        let ly = in_put _ py _ dy (λ at d has. up at d (in_yes node a ns has)) (from_put py _ _ _ fy ln) in
        joins_put node (deed.Chooses a) p _ _ _ _ _ _ j (up node (deed.Chooses a) (has_if ys ns)) (tt, ly)
    in_put p q ts (in_turns {pf = pf} {pb = pb} {node = node} {a = a} {first = first} {body = body} f df j db fb d) up l =
        let lb = in_put _ pb _ db (λ at d has. up at d (in_body first node a has)) (from_put pb _ _ _ fb (in_put _ q _ d (λ node d has. up node d (behind has)) l)) in
        from_put p _ _ _ f (in_put _ pf _ df (λ at d has. up at d (in_first node a body has)) (joins_put node (deed.Tests a) pf _ _ _ _ _ _ j (up node (deed.Tests a) (has_test first body)) (tt, lb)))

  methods_put : (m made : ℕ) (methods : List Method) (firsts : List ℕ) (later : List Block) → AreMethods c m made methods firsts later → ((i : ℕ) (method : Method) → slice_get methods i ≡ Some method → (node : ℕ) (d : Deed) → Has method.body node d → PutNode node d) → All later
  methods_put m made methods firsts later none up = tt
  methods_put m made methods firsts later (one {q = q} {method = method} d f rest) up = in_put m _ q _ d (up zero method refl) (from_put m q _ _ _ f (methods_put (suc m) _ _ _ _ rest (λ i mt e. up (suc i) mt e)))

pub cut_is_placed : CutIsPlaced
cut_is_placed plan placed leads cut put = methods_put plan placed leads (cutting placed plan.blocks) refl 1 0 plan.code.methods plan.blocks.firsts plan.blocks.blocks cut (λ i method e node d has. put (suc i) node d (record { method = method; is = e; has = has }))
