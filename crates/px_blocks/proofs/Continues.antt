-- A machine that stopped at an operation goes on with the answer as one with one more answer does.
use Rattle.std.proofs.Common.{◌≡◌, ℕ, ◌+◌, nat_lt, Bool, true, false, if◌then◌else◌, List, [], ◌∷◌, ◌++◌, Option, Some, None, Ok, Err, refl, sym, ap, subst, ◌∙◌}
use Rattle.px_value.specs.declared.value.Value.{Value}
use Rattle.px_value.specs.declared.statement.TableOp.{TableOp}
use Rattle.px_value.specs.declared.answer.Answer.{Answer}
use Rattle.px_value.specs.Operators.{Applied}
use Rattle.px_value.specs.Outcome.{Outcome, Gives, Throws, Asks, ◌>>=◌, pure}
use Rattle.px_normal.specs.declared.word.Word.{Word}
use Rattle.px_blocks.specs.declared.block.Deed.{Deed}
use Rattle.px_blocks.specs.declared.block.Deed.TheVariants as deed
use Rattle.px_blocks.specs.declared.block.Send.{Send}
use Rattle.px_blocks.specs.declared.block.Statement.{Statement}
use Rattle.px_blocks.specs.declared.block.Block.{Block}
use Rattle.px_blocks.specs.declared.block.Exit.{Exit}
use Rattle.px_blocks.specs.Sides.{same_side}
use Rattle.px_effects.specs.Act.{acted, landed}
use Rattle.px_effects.specs.Run.{Shared, Ask, asked}
use Rattle.px_effects.specs.Operations.{Said, Answers, Out, counted, with_said, max_operations}
use Rattle.px_normal.specs.Words.{answer_of, is_return}
use Rattle.px_normal.specs.Run.{Ran, Traced}
use Rattle.px_blocks.specs.Plan.{Plan, firsts_of}
use Rattle.px_blocks.specs.Machine.{Machine, How, Next, Fell, Waits as Awaits, Done, block_at, ran_of, after_act, valued, valued_if, done, block_run, block_answered, end_left, is_last}
use Rattle.px_blocks.specs.One.{One, Step, Goes, Ended, Falls, Waits, Asks as Stays, Leads, here, on, side_next, passed_if, pass, shared_of, one_after, one_done, one_end, one_at, one_step, one_hears, one_answers, one_answer, one_told, one_asks, one_moves, one_begun}
use Rattle.px_blocks.specs.Law.{RunsAs, by_list, AnswersContinue}
use Rattle.px_blocks.proofs.Ways.{moves_is}
use Rattle.px_blocks.proofs.Running.{blocks_run_as_code}

module _ (plan : Plan) (answer : Answer) where
  -- with one more answer at the end
  abbrev longer : One (List Answer) → One (List Answer)
  longer o = record o { world = o.world ++ answer ∷ [] }

  abbrev Answered : Type 0
  Answered = Step TableOp (One (List Answer))

  abbrev all_longer : Answered → Answered
  all_longer (Goes o) = Goes (longer o)
  all_longer (Ended o) = Ended (longer o)
  all_longer (Falls t o) = Falls t (longer o)
  all_longer (Waits op s o) = Waits op s (longer o)
  all_longer (Stays q s o) = Stays q s (longer o)

  -- what comes of a step with one more answer
  abbrev more : Answered → Answered
  more (Goes o) = Goes (longer o)
  more (Ended o) = Ended (longer o)
  more (Falls t o) = Falls t (longer o)
  more (Waits op s o) = Waits op s (longer o)
  more (Stays q s o) = one_answer plan s (Answers answer) o

  -- ---- a block doesn't look at answers

  passed_longer : (b : Bool) (o : One (List Answer)) → passed_if b plan (longer o) ≡ longer (passed_if b plan o)
  passed_longer true o = refl
  passed_longer false o = refl

  after_longer : (o : One (List Answer)) (ran : List Ran) (m : Machine) (how : How) → one_after (longer o) ran m how ≡ all_longer (one_after o ran m how)
  after_longer o ran m (Next n) = refl
  after_longer o ran m (Fell t) = refl
  after_longer o ran m (Awaits op s) = refl

  done_longer : (o : One (List Answer)) (d : Done) → one_done (longer o) d ≡ all_longer (one_done o d)
  done_longer o d = after_longer o d.ran d.machine d.how

  end_longer : (b : Bool) (o : One (List Answer)) → one_end b plan (longer o) ≡ all_longer (one_end b plan o)
  end_longer true o = refl
  end_longer false o = done_longer o (end_left plan o.machine)

  at_longer : (b : Option Block) (o : One (List Answer)) → one_at plan b (longer o) ≡ all_longer (one_at plan b o)
  at_longer None o = end_longer (is_last o.machine.control) o
  at_longer (Some b) o = done_longer o (block_run plan o.block b o.machine)

  step_longer : (o : One (List Answer)) → one_step plan (longer o) ≡ all_longer (one_step plan o)
  step_longer o = ap (one_at plan (block_at plan.blocks.blocks o.block)) (passed_longer (same_side o.side (side_next plan o.block o.machine.control o.side)) o) ∙ at_longer (block_at plan.blocks.blocks o.block) (pass plan o)

  -- a step leaves no question open: it isn't asked yet
  abbrev IsStep : Answered → Type 0
  IsStep (Stays q s o) = ⊥
  IsStep _ = Unit {0}

  after_is : (o : One (List Answer)) (ran : List Ran) (m : Machine) (how : How) → IsStep (one_after o ran m how)
  after_is o ran m (Next n) = tt
  after_is o ran m (Fell t) = tt
  after_is o ran m (Awaits op s) = tt

  end_is : (b : Bool) (o : One (List Answer)) → IsStep (one_end b plan o)
  end_is true o = tt
  end_is false o = let d = end_left plan o.machine in after_is o d.ran d.machine d.how

  at_is : (b : Option Block) (o : One (List Answer)) → IsStep (one_at plan b o)
  at_is None o = end_is (is_last o.machine.control) o
  at_is (Some b) o = let d = block_run plan o.block b o.machine in after_is o d.ran d.machine d.how

  step_is : (o : One (List Answer)) → IsStep (one_step plan o)
  step_is o = at_is (block_at plan.blocks.blocks o.block) (pass plan o)

  -- ---- what is said

  -- an answer never asks
  valued_more : (o : One (List Answer)) (e : Exit) (send : Option Send) (word : Word) (ran : List Ran) (m : Machine) (a : Applied) → one_done (longer o) (done e (valued plan.blocks.blocks send word ran m a)) ≡ more (one_done o (done e (valued plan.blocks.blocks send word ran m a)))
  valued_more o e send word ran m (Err t) = refl
  valued_more o e send word ran m (Ok v) = by_return (is_return word)
    where
      by_return : (over : Bool) → one_done (longer o) (done e (valued_if over plan.blocks.blocks send word ran v m)) ≡ more (one_done o (done e (valued_if over plan.blocks.blocks send word ran v m)))
      by_return true = refl
      by_return false = refl

  deed_more : (o : One (List Answer)) (b : Block) (node : ℕ) (send : Option Send) (said : Said) (d : Deed) → one_done (longer o) (block_answered plan b (record { node = node; deed = d; send = send }) said o.machine) ≡ more (one_done o (block_answered plan b (record { node = node; deed = d; send = send }) said o.machine))
  deed_more o b node send said (deed.Does word) =
      let a = acted (firsts_of plan.code) (with_said (answer_of word) said) o.machine.heap in
      let l = landed o.machine.prints a.ends in
      valued_more o b.exit send word (ran_of node a.reads a.writes) (after_act a l o.machine) l.value
  deed_more o b node send said (deed.Chooses a) = refl
  deed_more o b node send said (deed.Tests a) = refl

  answers_more : (b : Option Block) (s : Statement) (said : Said) (o : One (List Answer)) → one_answers plan b s said (longer o) ≡ more (one_answers plan b s said o)
  answers_more None s said o = refl
  answers_more (Some b) s said o = deed_more o b s.node s.send said s.deed

  answer_more : (s : Statement) (said : Said) (o : One (List Answer)) → one_answer plan s said (longer o) ≡ more (one_answer plan s said o)
  answer_more s said o = answers_more (block_at plan.blocks.blocks o.block) s said (one_hears said o)

  -- what is said where an operation may be asked
  abbrev told_if : Bool → TableOp → Shared (List Answer) → Outcome TableOp (Shared (List Answer)) Said
  told_if may op g = if may then (asked by_list op >>= (λ answer. pure (Answers answer))) (counted g) else Gives Out g

  list_more : (op : TableOp) (s : Statement) (o : One (List Answer)) (world : List Answer) →
      one_told plan s (longer o) (told_if true op (record (shared_of o) { world = world ++ answer ∷ [] })) ≡ more (one_told plan s o (told_if true op (record (shared_of o) { world = world })))
  list_more op s o [] = refl
  list_more op s o (x ∷ world) = answer_more s (Answers x) (record o { world = world; operations = o.operations + 1 })

  may_more : (op : TableOp) (s : Statement) (o : One (List Answer)) (may : Bool) → one_told plan s (longer o) (told_if may op (shared_of (longer o))) ≡ more (one_told plan s o (told_if may op (shared_of o)))
  may_more op s o true = list_more op s o o.world
  may_more op s o false = answer_more s Out o

  asks_more : (x : Answered) → IsStep x → one_asks plan by_list (all_longer x) ≡ more (one_asks plan by_list x)
  asks_more (Goes o) i = refl
  asks_more (Ended o) i = refl
  asks_more (Falls t o) i = refl
  asks_more (Waits op s o) i = may_more op s o (nat_lt o.operations max_operations)
  asks_more (Stays q s o) i = absurd i

  moves_more : (o : One (List Answer)) → one_moves plan by_list (longer o) ≡ more (one_moves plan by_list o)
  moves_more o = moves_is plan by_list (longer o) ∙ ap (one_asks plan by_list) (step_longer o) ∙ asks_more (one_step plan o) (step_is o) ∙ ap more (sym (moves_is plan by_list o))

  leads_more : (x y : Answered) → Leads plan by_list x y → Leads plan by_list (more x) (more y)
  leads_more x y here = here
  leads_more x y (on {o = o} l) = on (subst (λ z. Leads plan by_list z (more y)) (sym (moves_more o)) (leads_more _ y l))

-- ---- what comes after is fixed

abbrev pub IsEnd : {Q W : Type 0} → Step Q (One W) → Type 0
IsEnd (Goes o) = ⊥
IsEnd _ = Unit {0}

module _ {Q W : Type 0} (plan : Plan) (ask : Ask Q W) where
  from_moved : (o : One W) (y z : Step Q (One W)) → Leads plan ask (Goes o) z → IsEnd z → (Leads plan ask (one_moves plan ask o) z → Leads plan ask y z) → Leads plan ask y z
  from_moved o y z here e k = absurd e
  from_moved o y z (on l) e k = k l

  leads_from : (x y z : Step Q (One W)) → Leads plan ask x y → Leads plan ask x z → IsEnd z → Leads plan ask y z
  leads_from x y z here l e = l
  leads_from x y z (on {o = o} k) l e = from_moved o y z l e (λ l'. leads_from _ y z k l' e)

  runs_from : (x y : Step Q (One W)) (o : Outcome Q (Traced W) (Option Value)) → Leads plan ask x y → RunsAs plan ask x o → RunsAs plan ask y o
  runs_from x y (Gives v g) l r = (r.0, leads_from x y _ l r.1 tt, r.2, r.3)
  runs_from x y (Throws t g) l r = (r.0, leads_from x y _ l r.1 tt, r.2)
  runs_from x y (Asks q g) l r = (r.0, r.1, leads_from x y _ l r.2 tt, r.3)

pub answers_continue : AnswersContinue
answers_continue plan placed cut heap answers method args op s last l answer =
    runs_from plan by_list (Goes (one_begun plan method args heap (answers ++ answer ∷ []))) (one_answer plan s (Answers answer) last) _
    (leads_more plan answer _ _ l)
    (blocks_run_as_code TableOp (List Answer) plan placed cut by_list heap (answers ++ answer ∷ []) method args)
