-- The run at two ends is the run on the one machine.
use Rattle.std.proofs.Common.{◌≡◌, ℕ, zero, suc, ◌+◌, nat_lt, if◌then◌else◌, Bool, true, false, List, [], ◌∷◌, ◌++◌, Option, Some, None, refl, sym, ap, ◌∙◌, subst}
use Rattle.px_value.specs.declared.statement.TableOp.{TableOp}
use Rattle.px_blocks.specs.declared.side.Side.TheVariants.{App}
use Rattle.px_blocks.specs.declared.block.Block.{Block}
use Rattle.px_blocks.specs.declared.block.Statement.{Statement}
use Rattle.px_normal.specs.Run.{Ran}
use Rattle.px_value.specs.declared.answer.Answer.{Answer}
use Rattle.px_value.specs.Outcome.{Outcome, Gives, Throws, Asks as LeavesOpen, then_run, ◌>>=◌, pure}
use Rattle.px_effects.specs.Run.{Shared, Ask, asked, in_world}
use Rattle.px_effects.specs.Operations.{Said, Answers, Out, counted, told, max_operations}
use Rattle.px_blocks.specs.Plan.{Plan}
use Rattle.px_blocks.specs.Machine.{Machine, How, Next, Fell, Waits as Awaits, Done, block_at, block_run, block_answered, end_left, is_last}
use Rattle.px_blocks.specs.One.{Did, AskedAt, ToldAt, Aborted, One, Step, Goes, Ended, Falls, Waits, Asks, shared_of, with_asked, end_side, side_of_block, pass, one_after, one_done, one_end, one_at, one_step, one_hears, one_answers, one_answer, one_told, one_asks, one_moves, goes_on, one_run}
use Rattle.px_ends.specs.Runs.{Pair, come, pair_after, pair_done, pair_end, pair_at, pair_step, pair_shared, pair_asked, pair_hears, pair_answers, pair_answer, pair_told, pair_asks, pair_moves, pair_run, IsGoodTold, GoodBlock, GoodStep, GoodAnswer, GoodRun, MeetsTold, MeetsAsked, MeetsOn, MeetsRun, Agrees, SameStep, BlocksAlike, AgreeBy}
use Rattle.px_ends.proofs.Steps.{block_alike, block_answer_alike, end_alike}
use Rattle.px_ends.proofs.Crossing.{come_alike, there_now, pass_last}

module _ (Q : Type 0) {W : Type 0} (plan : Plan) where
  -- ---- what a block leaves

  after_alike : (p : Pair W) (o : One W) (ran : List Ran) (near one : Machine) (how : How) → Agrees plan p o → AgreeBy plan o.side p.far how near one → SameStep {Q = Q} plan (pair_after p ran near how) (one_after o ran one how)
  after_alike p o ran near one (Next n) g h = record { side = g.side; block = refl; world = g.world; operations = g.operations; story = λ k. g.story k ++ Did (g.side k) ran ∷ []; agree = h }
  after_alike p o ran near one (Fell t) g h = (refl, record { side = g.side; world = g.world; operations = g.operations; story = λ k. g.story k ++ Did (g.side k) ran ∷ Aborted (g.side k) t ∷ []; split = h })
  after_alike p o ran near one (Awaits q s) g h = (refl, refl, record { side = g.side; block = g.block; world = g.world; operations = g.operations; story = λ k. g.story k ++ Did (g.side k) ran ∷ AskedAt (g.side k) q ∷ []; agree = h })

  done_alike : (p : Pair W) (o : One W) (d e : Done) → Agrees plan p o → BlocksAlike plan o.side p.far d e → SameStep {Q = Q} plan (pair_done p d) (one_done o e)
  done_alike p o d e g h =
      subst (λ z. SameStep {Q = Q} plan (pair_after p d.ran d.machine z) (one_done o e)) (sym h.how)
      (subst (λ (z : List Ran). SameStep {Q = Q} plan (pair_after p z d.machine e.how) (one_done o e)) (sym h.ran) (after_alike p o e.ran d.machine e.machine e.how g h.agree))

  end_same : (b : Bool) (p : Pair W) (o : One W) → Agrees plan p o → (b ≡ true → o.side ≡ App) → SameStep {Q = Q} plan (pair_end b plan p) (one_end b plan o)
  end_same true p o g s = (g, s refl)
  end_same false p o g s = done_alike p o (end_left plan p.near) (end_left plan o.machine) g (end_alike plan o.side p.far p.near o.machine g.agree)

  at_alike : (b : Option Block) (p : Pair W) (o : One W) → Agrees plan p o → (b ≡ None → is_last o.machine.control ≡ true → o.side ≡ App) → GoodBlock plan b o → SameStep {Q = Q} plan (pair_at plan b p) (one_at plan b o)
  at_alike None p o g s good =
      let agree = g.agree in
      let split = agree.split in
      subst (λ c. SameStep {Q = Q} plan (pair_end (is_last c) plan p) (one_at plan None o)) (sym split.control) (end_same (is_last o.machine.control) p o g (s refl))
  at_alike (Some b) p o g s good =
      done_alike p o (block_run plan p.block b p.near) (block_run plan o.block b o.machine) g
      (subst (λ n. BlocksAlike plan o.side p.far (block_run plan n b p.near) (block_run plan o.block b o.machine)) (sym g.block) (block_alike plan o.side p.far o.block b p.near o.machine g.agree good))

  pub at_end : (o : One W) → block_at plan.blocks.blocks o.block ≡ None → is_last (pass plan o).machine.control ≡ true → (pass plan o).side ≡ App
  at_end o none last =
      there_now plan o ∙ ap (λ (b : Option Block). side_of_block b o.machine.control o.side) none
      ∙ ap (λ z. end_side z o.side) (sym (pass_last plan o) ∙ last)

  pub steps_agree : (p : Pair W) (o : One W) → Agrees plan p o → GoodStep plan o → SameStep {Q = Q} plan (pair_step plan p) (one_step plan o)
  steps_agree p o g good =
      subst (λ n. SameStep {Q = Q} plan (pair_at plan (block_at plan.blocks.blocks n) (come plan p)) (one_step plan o)) (sym g.block)
      (at_alike (block_at plan.blocks.blocks o.block) (come plan p) (pass plan o) (come_alike plan p o g) (at_end o) good)

  -- ---- what is said

  hears_alike : (p : Pair W) (o : One W) (said : Said) → Agrees plan p o → Agrees plan (pair_hears said p) (one_hears said o)
  hears_alike p o said g = record { side = g.side; block = g.block; world = g.world; operations = g.operations; story = λ k. g.story k ++ ToldAt (g.side k) said ∷ []; agree = g.agree }

  answers_alike : (b : Option Block) (s : Statement) (said : Said) (p : Pair W) (o : One W) → Agrees plan p o → GoodAnswer plan s said o → SameStep {Q = Q} plan (pair_answers plan b s said p) (one_answers plan b s said o)
  answers_alike None s said p o g good = g
  answers_alike (Some b) s said p o g good =
      done_alike p o (block_answered plan b s said p.near) (block_answered plan b s said o.machine) g
      (block_answer_alike plan o.side p.far b s said p.near o.machine g.agree good)

  pub answers_agree : (s : Statement) (said : Said) (p : Pair W) (o : One W) → Agrees plan p o → GoodAnswer plan s said o → SameStep {Q = Q} plan (pair_answer plan s said p) (one_answer plan s said o)
  answers_agree s said p o g good =
      subst (λ n. SameStep {Q = Q} plan (pair_answers plan (block_at plan.blocks.blocks n) s said (pair_hears said p)) (one_answer plan s said o)) (sym g.block)
      (answers_alike (block_at plan.blocks.blocks o.block) s said (pair_hears said p) (one_hears said o) (hears_alike p o said g) good)

  -- the same is said to both, in the same world
  abbrev SaysAlike : Outcome Q (Shared W) Said → Outcome Q (Shared W) Said → Type 0
  SaysAlike (Gives a g) (Gives b h) = (a ≡ b) × (g.world ≡ h.world) × (g.operations ≡ h.operations)
  SaysAlike (Throws t g) (Throws u h) = (t ≡ u) × (g.world ≡ h.world) × (g.operations ≡ h.operations)
  SaysAlike (LeavesOpen q g) (LeavesOpen r h) = (q ≡ r) × (g.world ≡ h.world) × (g.operations ≡ h.operations)
  SaysAlike _ _ = ⊥

  asked_alike : (p : Pair W) (o : One W) (g h : Shared W) → g.world ≡ h.world → g.operations ≡ h.operations → Agrees plan p o → Agrees plan (pair_asked g p) (with_asked h o)
  asked_alike p o g h w n a = record { side = a.side; block = a.block; world = w; operations = n; story = a.story; agree = a.agree }

  told_agree : (s : Statement) (p : Pair W) (o : One W) (x y : Outcome Q (Shared W) Said) → SaysAlike x y → Agrees plan p o → MeetsTold (IsGoodTold plan) s o y → SameStep {Q = Q} plan (pair_told plan s p x) (one_told plan s o y)
  told_agree s p o (Gives a g) (Gives b h) e k good =
      subst (λ z. SameStep {Q = Q} plan (pair_answer plan s z (pair_asked g p)) (one_answer plan s b (with_asked h o))) (sym e.0)
      (answers_agree s b (pair_asked g p) (with_asked h o) (asked_alike p o g h e.1 e.2 k) good)
  told_agree s p o (Gives a g) (Throws u h) e k good = absurd e
  told_agree s p o (Gives a g) (LeavesOpen r h) e k good = absurd e
  told_agree s p o (Throws t g) (Gives b h) e k good = absurd e
  told_agree s p o (Throws t g) (Throws u h) e k good =
      let a = k.agree in
      (e.0, record { side = k.side; world = e.1; operations = e.2; story = λ j. k.story j ++ Aborted (k.side j) (e.0 j) ∷ []; split = a.split })
  told_agree s p o (Throws t g) (LeavesOpen r h) e k good = absurd e
  told_agree s p o (LeavesOpen q g) (Gives b h) e k good = absurd e
  told_agree s p o (LeavesOpen q g) (Throws u h) e k good = absurd e
  told_agree s p o (LeavesOpen q g) (LeavesOpen r h) e k good = (e.0, refl, asked_alike p o g h e.1 e.2 k)

  -- what is said looks at the world and the count alone
  says_of : (a b : Shared W) (x : Outcome Q W Answer) → a.operations ≡ b.operations → SaysAlike (then_run (in_world (counted a) x) (λ answer. pure (Answers answer))) (then_run (in_world (counted b) x) (λ answer. pure (Answers answer)))
  says_of a b (Gives answer w) e = (refl, refl, ap (λ n. n + 1) e)
  says_of a b (Throws t w) e = (refl, refl, ap (λ n. n + 1) e)
  says_of a b (LeavesOpen q w) e = (refl, refl, ap (λ n. n + 1) e)

  says_if : (ask : Ask Q W) (op : TableOp) (a b : Shared W) (may : Bool) → a.world ≡ b.world → a.operations ≡ b.operations
      → SaysAlike (if may then (asked ask op >>= (λ answer. pure (Answers answer))) (counted a) else Gives Out a) (if may then (asked ask op >>= (λ answer. pure (Answers answer))) (counted b) else Gives Out b)
  says_if ask op a b true w n = subst (λ z. SaysAlike (then_run (in_world (counted a) (ask op z)) (λ answer. pure (Answers answer))) (then_run (in_world (counted b) (ask op b.world)) (λ answer. pure (Answers answer)))) (sym w) (says_of a b (ask op b.world) n)
  says_if ask op a b false w n = (refl, w, n)

  says_alike : (ask : Ask Q W) (op : TableOp) (a b : Shared W) → a.world ≡ b.world → a.operations ≡ b.operations → SaysAlike (told ask op a) (told ask op b)
  says_alike ask op a b w n = subst (λ k. SaysAlike (if nat_lt k max_operations then (asked ask op >>= (λ answer. pure (Answers answer))) (counted a) else Gives Out a) (told ask op b)) (sym n) (says_if ask op a b (nat_lt b.operations max_operations) w n)

  asks_agree : (ask : Ask Q W) (q r : TableOp) (s u : Statement) (p : Pair W) (o : One W) → q ≡ r → s ≡ u → Agrees plan p o → MeetsTold (IsGoodTold plan) u o (told ask r (shared_of o))
      → SameStep {Q = Q} plan (pair_told plan s p (told ask q (pair_shared p))) (one_told plan u o (told ask r (shared_of o)))
  asks_agree ask q r s u p o e f g good =
      subst (λ (z : TableOp). SameStep {Q = Q} plan (pair_told plan s p (told ask z (pair_shared p))) (one_told plan u o (told ask r (shared_of o)))) (sym e)
      (subst (λ (z : Statement). SameStep {Q = Q} plan (pair_told plan z p (told ask r (pair_shared p))) (one_told plan u o (told ask r (shared_of o)))) (sym f)
      (told_agree u p o (told ask r (pair_shared p)) (told ask r (shared_of o)) (says_alike ask r (pair_shared p) (shared_of o) g.world g.operations) g good))

  asked_agree : (ask : Ask Q W) (x : Step Q (Pair W)) (y : Step Q (One W)) → SameStep plan x y → MeetsAsked (IsGoodTold plan) ask y → SameStep {Q = Q} plan (pair_asks plan ask x) (one_asks plan ask y)
  asked_agree ask (Goes p) (Goes o) h good = h
  asked_agree ask (Goes p) (Ended o) h good = absurd h
  asked_agree ask (Goes p) (Falls u o) h good = absurd h
  asked_agree ask (Goes p) (Waits oq u o) h good = absurd h
  asked_agree ask (Goes p) (Asks r u o) h good = absurd h
  asked_agree ask (Ended p) (Goes o) h good = absurd h
  asked_agree ask (Ended p) (Ended o) h good = h
  asked_agree ask (Ended p) (Falls u o) h good = absurd h
  asked_agree ask (Ended p) (Waits oq u o) h good = absurd h
  asked_agree ask (Ended p) (Asks r u o) h good = absurd h
  asked_agree ask (Falls t p) (Goes o) h good = absurd h
  asked_agree ask (Falls t p) (Ended o) h good = absurd h
  asked_agree ask (Falls t p) (Falls u o) h good = h
  asked_agree ask (Falls t p) (Waits oq u o) h good = absurd h
  asked_agree ask (Falls t p) (Asks r u o) h good = absurd h
  asked_agree ask (Waits op s p) (Goes o) h good = absurd h
  asked_agree ask (Waits op s p) (Ended o) h good = absurd h
  asked_agree ask (Waits op s p) (Falls u o) h good = absurd h
  asked_agree ask (Waits op s p) (Waits oq u o) h good = asks_agree ask op oq s u p o h.0 h.1 h.2 good
  asked_agree ask (Waits op s p) (Asks r u o) h good = absurd h
  asked_agree ask (Asks q s p) (Goes o) h good = absurd h
  asked_agree ask (Asks q s p) (Ended o) h good = absurd h
  asked_agree ask (Asks q s p) (Falls u o) h good = absurd h
  asked_agree ask (Asks q s p) (Waits oq u o) h good = absurd h
  asked_agree ask (Asks q s p) (Asks r u o) h good = h

  -- ---- a run

  abbrev RunsAlike : Ask Q W → ℕ → Type 0
  RunsAlike ask n = (p : Pair W) (o : One W) → Agrees plan p o → GoodRun plan ask n o → SameStep {Q = Q} plan (pair_run plan ask n p) (one_run plan ask n o)

  on_alike : (ask : Ask Q W) (n : ℕ) → RunsAlike ask n → (x : Step Q (Pair W)) (y : Step Q (One W)) → SameStep plan x y → MeetsOn (GoodRun plan ask n) y → SameStep {Q = Q} plan (goes_on (pair_run plan ask n) x) (goes_on (one_run plan ask n) y)
  on_alike ask n rest (Goes p) (Goes o) h good = rest p o h good
  on_alike ask n rest (Goes p) (Ended o) h good = absurd h
  on_alike ask n rest (Goes p) (Falls u o) h good = absurd h
  on_alike ask n rest (Goes p) (Waits oq u o) h good = absurd h
  on_alike ask n rest (Goes p) (Asks r u o) h good = absurd h
  on_alike ask n rest (Ended p) (Goes o) h good = absurd h
  on_alike ask n rest (Ended p) (Ended o) h good = h
  on_alike ask n rest (Ended p) (Falls u o) h good = absurd h
  on_alike ask n rest (Ended p) (Waits oq u o) h good = absurd h
  on_alike ask n rest (Ended p) (Asks r u o) h good = absurd h
  on_alike ask n rest (Falls t p) (Goes o) h good = absurd h
  on_alike ask n rest (Falls t p) (Ended o) h good = absurd h
  on_alike ask n rest (Falls t p) (Falls u o) h good = h
  on_alike ask n rest (Falls t p) (Waits oq u o) h good = absurd h
  on_alike ask n rest (Falls t p) (Asks r u o) h good = absurd h
  on_alike ask n rest (Waits op s p) (Goes o) h good = absurd h
  on_alike ask n rest (Waits op s p) (Ended o) h good = absurd h
  on_alike ask n rest (Waits op s p) (Falls u o) h good = absurd h
  on_alike ask n rest (Waits op s p) (Waits oq u o) h good = h
  on_alike ask n rest (Waits op s p) (Asks r u o) h good = absurd h
  on_alike ask n rest (Asks q s p) (Goes o) h good = absurd h
  on_alike ask n rest (Asks q s p) (Ended o) h good = absurd h
  on_alike ask n rest (Asks q s p) (Falls u o) h good = absurd h
  on_alike ask n rest (Asks q s p) (Waits oq u o) h good = absurd h
  on_alike ask n rest (Asks q s p) (Asks r u o) h good = h

  moves_agree : (ask : Ask Q W) (p : Pair W) (o : One W) → Agrees plan p o → GoodStep plan o → MeetsAsked (IsGoodTold plan) ask (one_step plan o) → SameStep {Q = Q} plan (pair_moves plan ask p) (one_moves plan ask o)
  unfolding one_moves
  moves_agree ask p o g good heard = asked_agree ask (pair_step plan p) (one_step plan o) (steps_agree p o g good) heard

  pub runs_agree : (ask : Ask Q W) (n : ℕ) → RunsAlike ask n
  unfolding pair_run one_run MeetsRun
  runs_agree ask zero p o g good = g
  runs_agree ask (suc n) p o g good = on_alike ask n (runs_agree ask n) (pair_moves plan ask p) (one_moves plan ask o) (moves_agree ask p o g good.0 good.1) good.2
