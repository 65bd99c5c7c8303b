-- A call that goes on at two ends, from where it began.
use Rattle.std.proofs.Common.{◌≡◌, ℕ, zero, suc, ◌+◌, ◌-◌, ◌*◌, ◌^◌, ◌<◌, ◌≤◌, min, Bool, true, false, List, [], ◌∷◌, ◌++◌, length, Option, Some, slice_get, refl, sym, ap, subst, ◌∙◌, arith, append_assoc}
use Rattle.px_value.specs.declared.thrown.Thrown.{Thrown}
use Rattle.px_code.specs.declared.side.Side.{Side}
use Rattle.px_code.specs.declared.side.Side.TheVariants.{App, Db}
use Rattle.px_code.specs.declared.block.Block.{Block}
use Rattle.px_code.specs.declared.block.Exit.{Exit}
use Rattle.px_code.specs.declared.plan.Plan.{Plan}
use Rattle.px_code.specs.Places.{other, same_side}
use Rattle.px_code.specs.Cut.{exit_if, ends_in_return as block_returns}
use Rattle.px_code.specs.Machine.{Machine, Stop, RunsOn, Returned, Threw, steps, block_at, next_block, exit_to}
use Rattle.px_code.specs.Sound.{Ending, Finished, Fell}
use Rattle.px_wire.specs.declared.message.Message.TheVariants.{Transfer}
use Rattle.px_half.specs.End.{End, IsSameEnd, plan_at, blocks_in, side_of_block, BlockRun, block_run, crosses}
use Rattle.px_half.specs.Messages.{told}
use Rattle.px_half.specs.declared.step.Step.TheVariants as step
use Rattle.px_pair.specs.declared.ends.Ends.{Ends}
use Rattle.px_pair.specs.Servable.{IsServable}
use Rattle.px_pair.specs.Crossing.{quiet}
use Rattle.px_pair.specs.Story.{Happening, Did, Sent, Talks, moves_of, bytes_of}
use Rattle.px_pair.specs.Story as story
use Rattle.px_pair.specs.Ends.{end_at, near, far, with_end, AreSameEnds, moves_within, bytes_within, HasCrossed, IsRunning, CanTalk, IsUncounted, HaveTalked, HasFinished}
use Rattle.px_pair.proofs.Good.{exit_at}
use Rattle.px_pair.proofs.Running.{Turned, turned, ended, elsewhere, ran, threw, after_run, ran_on, HasTaken, has_taken}

-- ---- what is left of a call

abbrev pub extra : Bool → ℕ
extra true = 0
extra false = 1

-- each block that is left counts twice, and a message that is due once
abbrev pub left_of : ℕ → ℕ → Bool → ℕ
left_of count zero here = extra here
left_of count (suc k) here = 2 * (count - k) + extra here

abbrev pub is_here : List Block → Side → ℕ → Bool
is_here blocks side n = same_side side (side_of_block blocks n)

abbrev pub blocks_at : End → List Block
blocks_at e = blocks_in (plan_at e)

abbrev pub turns_left : Ends → ℕ
turns_left s = left_of (length (blocks_at (near s))) (near s).block (is_here (blocks_at (near s)) s.at (near s).block)

few_left : (count n : ℕ) (here : Bool) → left_of count n true ≤ left_of count n here
few_left count zero true = omega arith
few_left count zero false = omega arith
few_left count (suc k) true = omega arith
few_left count (suc k) false = omega arith

one_less : (count n : ℕ) → left_of count n true < left_of count n false
one_less count zero = omega arith
one_less count (suc k) = omega arith

within : (xs : List Block) (k : ℕ) (b : Block) → slice_get xs k ≡ Some b → k < length xs
within [] k b h = cc
within (x ∷ xs) zero b h = omega arith
within (x ∷ xs) (suc k) b h = let below = within xs k b h in omega (arith, below)

-- after a block fewer are left
falls : (plan : Plan) → IsServable plan → (n : ℕ) (b : Block) (stop : Stop) (here : Bool) → block_at plan.blocks.blocks n ≡ Some b → left_of (length plan.blocks.blocks) (next_block b.exit stop) here < left_of (length plan.blocks.blocks) n true
falls plan servable zero b stop here is = cc
falls plan servable (suc k) b RunsOn here is =
    let below = within plan.blocks.blocks k b is in
    let exit : b.exit ≡ exit_if (block_returns b.statements) (suc (k + 1)) = exit_at 1 plan.blocks.blocks k b servable.blocks.in_row is in
    subst (λ (x : Exit). left_of (length plan.blocks.blocks) (exit_to x) here < left_of (length plan.blocks.blocks) (suc k) true) (sym exit) (by_return (block_returns b.statements) here below)
  where
    by_return : (r here : Bool) → k < length plan.blocks.blocks → left_of (length plan.blocks.blocks) (exit_to (exit_if r (suc (k + 1)))) here < left_of (length plan.blocks.blocks) (suc k) true
    by_return true true below = omega arith
    by_return true false below = omega arith
    by_return false true below = omega arith
    by_return false false below = omega arith
falls plan servable (suc k) b Returned true is = let below = within plan.blocks.blocks k b is in omega (arith, below)
falls plan servable (suc k) b Returned false is = let below = within plan.blocks.blocks k b is in omega (arith, below)
falls plan servable (suc k) b (Threw t) true is = let below = within plan.blocks.blocks k b is in omega (arith, below)
falls plan servable (suc k) b (Threw t) false is = let below = within plan.blocks.blocks k b is in omega (arith, below)

-- ---- counts

moves_joined : (xs ys : List Happening) → moves_of (xs ++ ys) ≡ moves_of xs + moves_of ys
moves_joined [] ys = omega arith
moves_joined (Did side did ∷ xs) ys = moves_joined xs ys
moves_joined (Sent side message ∷ xs) ys = let rest = moves_joined xs ys in omega (arith, rest)

bytes_joined : (xs ys : List Happening) → bytes_of (xs ++ ys) ≡ bytes_of xs + bytes_of ys
bytes_joined [] ys = omega arith
bytes_joined (Did side did ∷ xs) ys = bytes_joined xs ys
bytes_joined (Sent side message ∷ xs) ys = let rest = bytes_joined xs ys in omega (arith, rest)

capped : (cap a b n : ℕ) → a ≡ min n cap → min (a + b) cap ≡ min (n + b) cap
capped cap a b n h = omega (arith, h)

-- ---- the same ends

pub same_refl : (s : Ends) → AreSameEnds s s
same_refl s = record {
  app = record { side = refl; plans = refl; part = refl; entry = refl };
  db = record { side = refl; plans = refl; part = refl; entry = refl };
  app_closed = refl;
  db_closed = refl;
}

same_end : (a b c : End) → IsSameEnd a b → IsSameEnd b c → IsSameEnd a c
same_end a b c x y = record { side = y.side ∙ x.side; plans = y.plans ∙ x.plans; part = y.part ∙ x.part; entry = y.entry ∙ x.entry }

pub same_on : (a b c : Ends) → AreSameEnds a b → AreSameEnds b c → AreSameEnds a c
same_on a b c x y = record {
  app = same_end a.app b.app c.app x.app y.app;
  db = same_end a.db b.db c.db x.db y.db;
  app_closed = y.app_closed ∙ x.app_closed;
  db_closed = y.db_closed ∙ x.db_closed;
}

-- ---- the invariant of the loop

-- from where the call began, this happened so far, and whatever happens from here on follows it
pub record Going (start s : Ends) : Type 0 where
  pub plan : Plan
  pub one : Machine
  pub running : IsRunning plan one s.at (near s) (far s)
  pub start_plan : plan_at (near start) ≡ Some plan
  pub so_far : List Happening
  pub talks : (rest : List Happening) (ending : Ending) (last : Side) (last_near last_far : Machine) → Talks plan s.at (near s).machine (far s).machine (near s).block rest ending last last_near last_far
      → Talks plan start.at (near start).machine (far start).machine (near start).block (so_far ++ rest) ending last last_near last_far
  pub moves : s.moves ≡ moves_within (moves_of so_far)
  pub bytes : s.bytes ≡ bytes_within (bytes_of so_far)
  pub same : AreSameEnds start s

-- and the next block is at the other side
pub record GoesOver (start s : Ends) : Type 0 where
  pub going : Going start s
  pub elsewhere_is : side_of_block going.plan.blocks.blocks (near s).block ≡ other s.at

pub begins : (s : Ends) → CanTalk s → IsUncounted s → Going s s
begins s can none = record {
  plan = can.0;
  one = can.1;
  running = can.2;
  start_plan = can.2.near_plan;
  so_far = [];
  talks = λ rest ending last n f d. d;
  moves = none.moves;
  bytes = none.bytes;
  same = same_refl s;
}

-- ---- a block at the end with control

-- what holds of the ends by the one with control and the other
at_near : (P : Side → End → End → Type 0) (app db : End) (at : Side) (moves bytes : ℕ) (e : End) → let s : Ends = record { app = app; db = db; at = at; moves = moves; bytes = bytes } in P at e (far s) → let t = with_end at e s in P t.at (near t) (far t)
at_near P app db App moves bytes e h = h
at_near P app db Db moves bytes e h = h

counted_moves : (at : Side) (e : End) (s : Ends) → (with_end at e s).moves ≡ s.moves
counted_moves App e s = refl
counted_moves Db e s = refl

counted_bytes : (at : Side) (e : End) (s : Ends) → (with_end at e s).bytes ≡ s.bytes
counted_bytes App e s = refl
counted_bytes Db e s = refl

-- a block at the end with control, which goes on with the next one
module _ (start s : Ends) (g : Going start s) (b : Block) (is : block_at g.plan.blocks.blocks (near s).block ≡ Some b) (here : b.side ≡ s.at) where
  abbrev e : End
  e = near s

  abbrev next : Ends
  next = with_end s.at (after_run b e) s

  abbrev happened : Happening
  happened = Did s.at (steps b.statements e.machine).ran

  joined : (rest : List Happening) → (g.so_far ++ happened ∷ []) ++ rest ≡ g.so_far ++ happened ∷ rest
  joined rest = append_assoc g.so_far (happened ∷ []) rest

  pub going_on : ((t : Thrown) → (steps b.statements e.machine).stop ≡ Threw t → ⊥) → AreSameEnds s next → Going start next
  going_on going same = record {
    plan = g.plan;
    one = (steps b.statements g.one).machine;
    running = at_near (λ at e' f. IsRunning g.plan (steps b.statements g.one).machine at e' f) s.app s.db s.at s.moves s.bytes (after_run b e) (ran_on g.plan g.one s.at e (far s) g.running b is here);
    start_plan = g.start_plan;
    so_far = g.so_far ++ happened ∷ [];
    talks = at_near (λ at e' f. (rest : List Happening) (ending : Ending) (last : Side) (last_near last_far : Machine) → Talks g.plan at e'.machine f.machine e'.block rest ending last last_near last_far
        → Talks g.plan start.at (near start).machine (far start).machine (near start).block ((g.so_far ++ happened ∷ []) ++ rest) ending last last_near last_far)
        s.app s.db s.at s.moves s.bytes (after_run b e)
        (λ rest ending last last_near last_far d. subst (λ (ys : List Happening). Talks g.plan start.at (near start).machine (far start).machine (near start).block ys ending last last_near last_far) (sym (joined rest))
        (g.talks (happened ∷ rest) ending last last_near last_far (story.runs is here going d)));
    moves = counted_moves s.at (after_run b e) s ∙ g.moves ∙ ap moves_within (let j = moves_joined g.so_far (happened ∷ []) in omega (arith, j));
    bytes = counted_bytes s.at (after_run b e) s ∙ g.bytes ∙ ap bytes_within (let j = bytes_joined g.so_far (happened ∷ []) in omega (arith, j));
    same = same_on start s next g.same same;
  }

  -- fewer turns are left
  pub fewer : turns_left next < turns_left s
  fewer =
      at_near (λ at e' f. left_of (length (blocks_at e')) e'.block (is_here (blocks_at e') at e'.block) < turns_left s) s.app s.db s.at s.moves s.bytes (after_run b e)
      (subst (λ (p : Option Plan). left_of (length (blocks_in p)) (next_block b.exit (steps b.statements e.machine).stop) (is_here (blocks_in p) s.at (next_block b.exit (steps b.statements e.machine).stop)) < left_of (length (blocks_in p)) e.block (is_here (blocks_in p) s.at e.block)) (sym g.running.near_plan) less)
    where
      less : left_of (length g.plan.blocks.blocks) (next_block b.exit (steps b.statements e.machine).stop) (is_here g.plan.blocks.blocks s.at (next_block b.exit (steps b.statements e.machine).stop)) < left_of (length g.plan.blocks.blocks) e.block (is_here g.plan.blocks.blocks s.at e.block)
      less =
          let fall = falls g.plan g.running.servable e.block b (steps b.statements e.machine).stop (is_here g.plan.blocks.blocks s.at (next_block b.exit (steps b.statements e.machine).stop)) is in
          let least = few_left (length g.plan.blocks.blocks) e.block (is_here g.plan.blocks.blocks s.at e.block) in
          omega (arith, fall, least)

-- ---- what `run_block` answers, and what it leaves

pub record Went (s next : Ends) : Type 0 where
  pub is : next ≡ with_end s.at (block_run (near s)).after s
  pub same : AreSameEnds s next

with_same : (s : Ends) → with_end s.at (near s) s ≡ s
with_same s = by_side s.app s.db s.at s.moves s.bytes
  where
    by_side : (app db : End) (at : Side) (moves bytes : ℕ) → let t : Ends = record { app = app; db = db; at = at; moves = moves; bytes = bytes } in with_end at (near t) t ≡ t
    by_side app db App moves bytes = refl
    by_side app db Db moves bytes = refl

crossed_answer : (b : Bool) → crosses b ≡ step.Next → b ≡ true
crossed_answer true h = refl
crossed_answer false h = cc

not_crossed : (b : Bool) → crosses b ≡ step.Cross → b ≡ false
not_crossed true h = cc
not_crossed false h = refl

away : (a b : Side) → same_side a b ≡ false → b ≡ other a
away App App h = cc
away App Db h = refl
away Db App h = refl
away Db Db h = cc

pub record Over (start s next : Ends) : Type 0 where
  pub over : GoesOver start next
  pub less : turns_left next ≤ turns_left s

-- the call has ended at APP
pub record IsDone (start next : Ends) : Type 0 where
  pub talked : HaveTalked start next Finished
  pub finished : HasFinished next

module _ (start s next : Ends) (g : Going start s) (went : Went s next) where
  abbrev turn : Turned g.plan s.at (near s) (block_run (near s))
  turn = turned g.plan s.at (near s) g.running.near_plan g.running.near_side g.running.there

  abbrev after_is : (e : End) → (block_run (near s)).after ≡ e → next ≡ with_end s.at e s
  after_is e h = went.is ∙ ap (λ (x : End). with_end s.at x s) h

  pub record Goes : Type 0 where
    pub going : Going start next
    pub less : turns_left next < turns_left s

  goes_by : (r : BlockRun) → Turned g.plan s.at (near s) r → r.answer ≡ step.Next → next ≡ with_end s.at r.after s → Goes
  goes_by r (ended zero_is app answer after) h is = let never = sym answer ∙ h in cc
  goes_by r (elsewhere away_is answer after) h is = let never = sym answer ∙ h in cc
  goes_by r (threw b t at here stop answer after) h is = let never = sym answer ∙ h in cc
  goes_by r (ran b at here going answer after) h is =
      let same : next ≡ with_end s.at (after_run b (near s)) s = is ∙ ap (λ (x : End). with_end s.at x s) after in
      record {
        going = subst (Going start) (sym same) (going_on start s g b at here going (subst (AreSameEnds s) same went.same));
        less = subst (λ (x : Ends). turns_left x < turns_left s) (sym same) (fewer start s g b at here);
      }

  pub goes : (block_run (near s)).answer ≡ step.Next → Goes
  goes h = goes_by (block_run (near s)) turn h went.is

  over_by : (r : BlockRun) → Turned g.plan s.at (near s) r → r.answer ≡ step.Cross → next ≡ with_end s.at r.after s → Over start s next
  unfolding going_on
  over_by r (ended zero_is app answer after) h is = let never = sym answer ∙ h in cc
  over_by r (threw b t at here stop answer after) h is = let never = sym answer ∙ h in cc
  over_by r (elsewhere away_is answer after) h is =
      let same : next ≡ s = is ∙ ap (λ (x : End). with_end s.at x s) after ∙ with_same s in
      subst (Over start s) (sym same) (record { over = record { going = g; elsewhere_is = away_is }; less = omega arith })
  over_by r (ran b at here going answer after) h is =
      let same : next ≡ with_end s.at (after_run b (near s)) s = is ∙ ap (λ (x : End). with_end s.at x s) after in
      subst (Over start s) (sym same) (record {
        over = record {
          going = going_on start s g b at here going (subst (AreSameEnds s) same went.same);
          elsewhere_is = at_near (λ at' e' f. side_of_block g.plan.blocks.blocks e'.block ≡ other at') s.app s.db s.at s.moves s.bytes (after_run b (near s))
              (away s.at (side_of_block g.plan.blocks.blocks (next_block b.exit (steps b.statements (near s).machine).stop)) (not_crossed (same_side s.at (side_of_block g.plan.blocks.blocks (next_block b.exit (steps b.statements (near s).machine).stop))) (sym answer ∙ h)));
        };
        less = let fewer_are = fewer start s g b at here in omega (arith, fewer_are);
      })

  pub goes_over : (block_run (near s)).answer ≡ step.Cross → Over start s next
  goes_over h = over_by (block_run (near s)) turn h went.is

  fell_by : (t : Thrown) (r : BlockRun) → Turned g.plan s.at (near s) r → r.answer ≡ step.Threw t → next ≡ with_end s.at r.after s → HaveTalked start next (Fell t)
  fell_by t r (ended zero_is app answer after) h is = let never = sym answer ∙ h in cc
  fell_by t r (elsewhere away_is answer after) h is = let never = sym answer ∙ h in cc
  fell_by t r (ran b at here going answer after) h is = let no_throw = sym answer ∙ h in absurd (never_throws (same_side s.at (side_of_block g.plan.blocks.blocks (next_block b.exit (steps b.statements (near s).machine).stop))) t no_throw)
    where
      never_throws : (x : Bool) (t : Thrown) → crosses x ≡ step.Threw t → ⊥
      never_throws true t h = cc
      never_throws false t h = cc
  fell_by t r (threw b u at here stop answer after) h is =
      let thrown : step.Threw u ≡ step.Threw t = sym answer ∙ h in
      let same_throw : u ≡ t = cc in
      let fallen : End = record (near s) { machine = (steps b.statements (near s).machine).machine } in
      let same : next ≡ with_end s.at fallen s = is ∙ ap (λ (x : End). with_end s.at x s) after in
      let happened : Happening = Did s.at (steps b.statements (near s).machine).ran in
      subst (λ (x : Ends). HaveTalked start x (Fell t)) (sym same) (record {
        story = g.so_far ++ happened ∷ [];
        talks = λ plan plan_is.
            let same_plan : g.plan ≡ plan = let e : Some g.plan ≡ Some plan = sym g.start_plan ∙ plan_is in cc in
            subst (λ (p : Plan). Talks p start.at (near start).machine (far start).machine (near start).block (g.so_far ++ happened ∷ []) (Fell t) (with_end s.at fallen s).at (near (with_end s.at fallen s)).machine (far (with_end s.at fallen s)).machine) same_plan
            (at_near (λ at' e' f. Talks g.plan start.at (near start).machine (far start).machine (near start).block (g.so_far ++ happened ∷ []) (Fell t) at' e'.machine f.machine) s.app s.db s.at s.moves s.bytes fallen
            (g.talks (happened ∷ []) (Fell t) s.at fallen.machine (far s).machine (story.falls at here (stop ∙ ap Threw same_throw))));
        moves = counted_moves s.at fallen s ∙ g.moves ∙ ap moves_within (let j = moves_joined g.so_far (happened ∷ []) in omega (arith, j));
        bytes = counted_bytes s.at fallen s ∙ g.bytes ∙ ap bytes_within (let j = bytes_joined g.so_far (happened ∷ []) in omega (arith, j));
      })

  pub fell : (t : Thrown) → (block_run (near s)).answer ≡ step.Threw t → HaveTalked start next (Fell t)
  fell t h = fell_by t (block_run (near s)) turn h went.is

  done_by : (r : BlockRun) → Turned g.plan s.at (near s) r → r.answer ≡ step.Done → next ≡ with_end s.at r.after s → IsDone start next
  done_by r (elsewhere away_is answer after) h is = let never = sym answer ∙ h in cc
  done_by r (threw b t at here stop answer after) h is = let never = sym answer ∙ h in cc
  done_by r (ran b at here going answer after) h is = let no_end = sym answer ∙ h in absurd (never_ends (same_side s.at (side_of_block g.plan.blocks.blocks (next_block b.exit (steps b.statements (near s).machine).stop))) no_end)
    where
      never_ends : (x : Bool) → crosses x ≡ step.Done → ⊥
      never_ends true h = cc
      never_ends false h = cc
  done_by r (ended zero_is app answer after) h is =
      let same : next ≡ s = is ∙ ap (λ (x : End). with_end s.at x s) after ∙ with_same s in
      subst (IsDone start) (sym same) (record {
        talked = record {
          story = g.so_far ++ [];
          talks = λ plan plan_is.
              let same_plan : g.plan ≡ plan = let e : Some g.plan ≡ Some plan = sym g.start_plan ∙ plan_is in cc in
              subst (λ (p : Plan). Talks p start.at (near start).machine (far start).machine (near start).block (g.so_far ++ []) Finished s.at (near s).machine (far s).machine) same_plan
              (g.talks [] Finished s.at (near s).machine (far s).machine (finished_at s.at (near s).block app zero_is));
          moves = g.moves ∙ ap moves_within (let j = moves_joined g.so_far [] in omega (arith, j));
          bytes = g.bytes ∙ ap bytes_within (let j = bytes_joined g.so_far [] in omega (arith, j));
        };
        finished = record { running = (g.plan, g.one, g.running); at = app; block = at_app app ∙ zero_is };
      })
    where
      finished_at : (side : Side) (n : ℕ) → side ≡ App → n ≡ 0 → Talks g.plan side (near s).machine (far s).machine n [] Finished side (near s).machine (far s).machine
      finished_at App zero h k = story.finished
      finished_at App (suc n) h k = cc
      finished_at Db n h k = cc

      at_app : s.at ≡ App → s.app.block ≡ (near s).block
      at_app h = ap (λ (x : Side). (end_at x s).block) (sym h)

  pub done : (block_run (near s)).answer ≡ step.Done → IsDone start next
  done h = done_by (block_run (near s)) turn h went.is

-- ---- control goes over

module _ (start s next : Ends) (o : GoesOver start s) (c : HasCrossed s next) (same : AreSameEnds s next) where
  abbrev g : Going start s
  g = o.going

  taken : HasTaken g.plan g.one s.at (near s) (far s) g.running o.elsewhere_is (near next) c.long
  taken = has_taken g.plan g.one s.at (near s) (far s) g.running o.elsewhere_is (near next) c.long c.heard

  abbrev sent : Happening
  sent = Sent (other s.at) (Transfer taken.t)

  joined_over : (rest : List Happening) → (g.so_far ++ sent ∷ []) ++ rest ≡ g.so_far ++ sent ∷ rest
  joined_over rest = append_assoc g.so_far (sent ∷ []) rest

  block_is : taken.t.block ≡ (near s).block
  block_is = taken.hands.block

  pub crossed : Going start next
  crossed = record {
    plan = g.plan;
    one = g.one;
    running = subst (λ (y : Side). IsRunning g.plan g.one y (near next) (far next)) (sym c.at) (subst (λ (f : End). IsRunning g.plan g.one (other s.at) (near next) f) (sym c.left) taken.running);
    start_plan = g.start_plan;
    so_far = g.so_far ++ sent ∷ [];
    talks = λ rest ending last last_near last_far d.
        subst (λ (ys : List Happening). Talks g.plan start.at (near start).machine (far start).machine (near start).block ys ending last last_near last_far) (sym (joined_over rest))
        (g.talks (sent ∷ rest) ending last last_near last_far (story.crosses o.elsewhere_is taken.hands taken.taken (from_next rest ending last last_near last_far d)));
    moves = c.moves ∙ capped (2 ^ 32 - 1) s.moves 1 (moves_of g.so_far) g.moves ∙ ap moves_within (let j = moves_joined g.so_far (sent ∷ []) in omega (arith, j));
    bytes = c.bytes ∙ capped (2 ^ 64 - 1) s.bytes c.long (bytes_of g.so_far) g.bytes ∙ ap bytes_within (let j = bytes_joined g.so_far (sent ∷ []) in let k = taken.long in omega (arith, j, k));
    same = same_on start s next g.same same;
  }
    where
      from_next : (rest : List Happening) (ending : Ending) (last : Side) (last_near last_far : Machine) → Talks g.plan next.at (near next).machine (far next).machine (near next).block rest ending last last_near last_far
          → Talks g.plan (other s.at) taken.machine (quiet (near s).machine) (near s).block rest ending last last_near last_far
      from_next rest ending last last_near last_far d =
          subst (λ (k : ℕ). Talks g.plan (other s.at) taken.machine (told (near s)).machine k rest ending last last_near last_far) block_is
          (subst (λ (x : End). Talks g.plan (other s.at) x.machine (told (near s)).machine x.block rest ending last last_near last_far) taken.is
          (subst (λ (x : End). Talks g.plan (other s.at) (near next).machine x.machine (near next).block rest ending last last_near last_far) c.left
          (subst (λ (y : Side). Talks g.plan y (near next).machine (far next).machine (near next).block rest ending last last_near last_far) c.at d)))

  blocks_are : blocks_at (near next) ≡ g.plan.blocks.blocks
  blocks_are = ap blocks_in taken.running.near_plan

  next_block_is : (near next).block ≡ (near s).block
  next_block_is = ap (λ (x : End). x.block) taken.is ∙ block_is

  here_now : is_here g.plan.blocks.blocks (other s.at) (near s).block ≡ true
  here_now = ap (same_side (other s.at)) o.elsewhere_is ∙ itself (other s.at)
    where
      itself : (a : Side) → same_side a a ≡ true
      itself App = refl
      itself Db = refl

  there_before : is_here g.plan.blocks.blocks s.at (near s).block ≡ false
  there_before = ap (same_side s.at) o.elsewhere_is ∙ apart s.at
    where
      apart : (a : Side) → same_side a (other a) ≡ false
      apart App = refl
      apart Db = refl

  pub fewer_over : turns_left next < turns_left s
  fewer_over =
      let after : turns_left next ≡ left_of (length g.plan.blocks.blocks) (near s).block true =
      (λ i. left_of (length (blocks_are i)) (next_block_is i) (is_here (blocks_are i) (c.at i) (next_block_is i))) ∙ ap (left_of (length g.plan.blocks.blocks) (near s).block) here_now in
      let before : turns_left s ≡ left_of (length g.plan.blocks.blocks) (near s).block false =
      ap (λ (p : Option Plan). left_of (length (blocks_in p)) (near s).block (is_here (blocks_in p) s.at (near s).block)) g.running.near_plan ∙ ap (left_of (length g.plan.blocks.blocks) (near s).block) there_before in
      let less = one_less (length g.plan.blocks.blocks) (near s).block in
      omega (arith, after, before, less)
