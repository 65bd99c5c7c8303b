-- What is told of one heap is a run of the same blocks on it: no message changes what is computed.
use Rattle.std.proofs.Common.{◌≡◌, ℕ, List, [], ◌∷◌, ◌++◌, map, Ok, Err, refl, sym, ap, subst, ◌∙◌, append-nil}
use Rattle.px_value.specs.declared.value.Value.{Value}
use Rattle.px_value.specs.Operators.{Applied}
use Rattle.px_code.specs.declared.side.Side.{Side}
use Rattle.px_code.specs.declared.block.Block.{Block}
use Rattle.px_code.specs.declared.block.Statement.{Statement}
use Rattle.px_code.specs.declared.plan.Plan.{Plan}
use Rattle.px_code.specs.Places.{other}
use Rattle.px_code.specs.Act.{act_of, Acted, acted}
use Rattle.px_code.specs.CodeRun.{Ran}
use Rattle.px_code.specs.Machine.{Machine, top_values, after_act, with_value, Stop, RunsOn, Returned, Threw, Stepped, step, step_ends, steps, then_steps, next_block}
use Rattle.px_code.specs.Sound.{Ending, Fell, RunsFrom}
use Rattle.px_code.specs.Sound as sound
use Rattle.px_pair.specs.Agree.{seen}
use Rattle.px_pair.specs.Story.{Happening, Told, finished, runs, falls, crosses, ran_in, handed}
use Rattle.px_pair.proofs.Frames.{same_values}
use Rattle.px_pair.proofs.Steps.{value_is, same_after}
use Rattle.px_pair.proofs.Marks.{valued_heap}
use Rattle.px_pair.proofs.Handing.{seen_settled}

-- the same heap, and stacks that are seen alike
pub record SameSeen (m n : Machine) : Type 0 where
  pub heap : m.heap ≡ n.heap
  pub frames : map seen m.frames ≡ map seen n.frames

-- ---- a block

record SameSteps (x y : Stepped) : Type 0 where
  machine : SameSeen x.machine y.machine
  ran : x.ran ≡ y.ran
  stop : x.stop ≡ y.stop

value_seen : (s : Statement) (a : Acted) (x : Value) (m n : Machine) → SameSeen m n → SameSeen (with_value s.word x (after_act a m)) (with_value s.word x (after_act a n))
value_seen s a x m n same = record {
  heap = valued_heap s.word x (after_act a m) ∙ sym (valued_heap s.word x (after_act a n));
  frames = ap (λ (k : Machine). map seen k.frames) (value_is s.word x (after_act a m)) ∙ same_after s.word x m.frames n.frames same.frames ∙ sym (ap (λ (k : Machine). map seen k.frames) (value_is s.word x (after_act a n)));
}

ends_same : (s : Statement) (a : Acted) (m n : Machine) (e : Applied) → SameSeen m n → SameSteps (step_ends s a m e) (step_ends s a n e)
ends_same s a m n (Ok x) same = let v : SameSeen (with_value s.word x (after_act a m)) (with_value s.word x (after_act a n)) = value_seen s a x m n same in record { machine = record { heap = v.heap; frames = v.frames }; ran = refl; stop = refl }
ends_same s a m n (Err t) same = record { machine = record { heap = refl; frames = same.frames }; ran = refl; stop = refl }

step_same : (s : Statement) (m n : Machine) → SameSeen m n → SameSteps (step s m) (step s n)
step_same s m n same = subst (λ (a : Acted). SameSteps (step_ends s a m a.ends) (step s n)) (sym acts) (ends_same s there m n there.ends same)
  where
    there : Acted
    there = acted (act_of s.word (top_values n.frames)) n.heap

    acts : acted (act_of s.word (top_values m.frames)) m.heap ≡ there
    acts = λ i. acted (act_of s.word (same_values m.frames n.frames same.frames i)) (same.heap i)

then_same : (x y : Stepped) (rest : List Statement) (stop : Stop) → SameSteps x y → SameSteps (steps rest x.machine) (steps rest y.machine) → SameSteps (then_steps x (steps rest) stop) (then_steps y (steps rest) stop)
then_same x y rest RunsOn first after = record { machine = after.machine; ran = λ i. first.ran i ++ after.ran i; stop = after.stop }
then_same x y rest Returned first after = first
then_same x y rest (Threw t) first after = first

steps_same : (statements : List Statement) (m n : Machine) → SameSeen m n → SameSteps (steps statements m) (steps statements n)
steps_same [] m n same = record { machine = same; ran = refl; stop = refl }
steps_same (s ∷ rest) m n same =
    let first : SameSteps (step s m) (step s n) = step_same s m n same in
    subst (λ (x : Stop). SameSteps (then_steps (step s m) (steps rest) x) (then_steps (step s n) (steps rest) (step s n).stop)) (sym first.stop)
    (then_same (step s m) (step s n) rest (step s n).stop first (steps_same rest (step s m).machine (step s n).machine first.machine))

-- ---- a call

-- the same blocks run, and leave the same heap and stack
pub record ToldRun (blocks : List Block) (n : ℕ) (one : Machine) (story : List Happening) (ending : Ending) (last : Machine) : Type 0 where
  pub machine : Machine
  pub runs : RunsFrom blocks n one (ran_in story) ending machine
  pub same : SameSeen last machine

module _ (plan : Plan) where
  abbrev blocks : List Block
  blocks = plan.blocks.blocks

  pub told_runs : (side : Side) (m last : Machine) (n : ℕ) (story : List Happening) (ending : Ending) → Told plan side m n story ending last → (one : Machine) → SameSeen m one → ToldRun blocks n one story ending last
  told_runs _ m _ _ _ _ finished one same = record { machine = one; runs = sound.finished; same = same }
  told_runs side m last n _ ending (runs {b = b} {story = rest} is at going after) one same =
      let block : SameSteps (steps b.statements m) (steps b.statements one) = steps_same b.statements m one same in
      let later : ToldRun blocks (next_block b.exit (steps b.statements m).stop) (steps b.statements one).machine rest ending last =
      told_runs side (steps b.statements m).machine last (next_block b.exit (steps b.statements m).stop) rest ending after (steps b.statements one).machine block.machine in
      record {
        machine = later.machine;
        runs = subst (λ (rs : List Ran). RunsFrom blocks n one (rs ++ ran_in rest) ending later.machine) (sym block.ran)
            (sound.runs is (λ t h. going t (block.stop ∙ h)) (subst (λ (x : Stop). RunsFrom blocks (next_block b.exit x) (steps b.statements one).machine (ran_in rest) ending later.machine) block.stop later.runs));
        same = later.same;
      }
  told_runs side m _ n _ _ (falls {b = b} {t = t} is at fell) one same =
      let block : SameSteps (steps b.statements m) (steps b.statements one) = steps_same b.statements m one same in
      record {
        machine = (steps b.statements one).machine;
        runs = subst (λ (rs : List Ran). RunsFrom blocks n one rs (Fell t) (steps b.statements one).machine) (sym (append-nil (steps b.statements m).ran ∙ block.ran)) (sound.falls is (sym block.stop ∙ fell));
        same = block.machine;
      }
  told_runs side m last n _ ending (crosses {t = t} {story = rest} at hands after) one same =
      let later : ToldRun blocks n one rest ending last = told_runs (other side) (handed m) last n rest ending after one (record { heap = same.heap; frames = seen_settled m.frames ∙ same.frames }) in
      record { machine = later.machine; runs = later.runs; same = later.same }
