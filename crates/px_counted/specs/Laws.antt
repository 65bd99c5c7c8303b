-- The counter of a node tells how often it runs.
use Rattle.std.specs.Prelude.{◌≡◌, ℕ, ◌+◌, nat_eq, if◌then◌else◌, List, [], ◌∷◌, Some}
use Rattle.px_value.specs.declared.value.Value.{Value}
use Rattle.px_value.specs.declared.object.Object.{Object}
use Rattle.px_value.specs.declared.thrown.Thrown.{Thrown}
use Rattle.px_value.specs.declared.statement.TableOp.{TableOp}
use Rattle.px_value.specs.Outcome.{Outcome, Gives, Throws, Asks}
use Rattle.px_facts.specs.declared.checked.Checked.{Checked}
use Rattle.px_effects.specs.Run.{Shared, Ask}
use Rattle.px_mean.specs.Program.{source_from}
use Rattle.px_mean.specs.Typing.{IsTyped}
use Rattle.px_normal.specs.declared.node.Node.{Node}
use Rattle.px_normal.specs.declared.node.NodeKind.TheVariants.{Normal}
use Rattle.px_normal.specs.declared.node.Counter.{Counter}
use Rattle.px_normal.specs.declared.node.Counter.TheVariants as counter
use Rattle.px_normal.specs.First.{numbered}
use Rattle.px_normal.specs.Run.{Ran, Traced}
use Rattle.px_normal.specs.CodeRun.{code_run}
use Rattle.px_lowering.specs.Programs.{lowered}
use Rattle.px_preservation.specs.Laws.{AreKnown}
use Rattle.px_counts.specs.Marks.{Mark, Begun, Completed, Entered, ReachedEnd, Marked, times}
use Rattle.px_counts.specs.Runs.{exec_with_marks}
use Rattle.px_counted.specs.Numbers.{AreNumbered}

-- what a counter counts
abbrev pub mark_of : Counter → Mark
mark_of (counter.Begun id) = Begun id
mark_of (counter.Completed id) = Completed id
mark_of (counter.Entered method) = Entered method
mark_of (counter.ReachedEnd method) = ReachedEnd method

-- how often a node's statement is among those that ran
abbrev pub runs_of : ℕ → List Ran → ℕ
runs_of node [] = 0
runs_of node (r ∷ rs) = if nat_eq node r.node then 1 + runs_of node rs else runs_of node rs

-- a run ends here, with a value or a throw
abbrev pub EndsAt : {Q S A : Type 0} → Outcome Q S A → S → Type 0
EndsAt (Gives a t) s = t ≡ s
EndsAt (Throws e t) s = t ≡ s
EndsAt (Asks q t) s = ⊥

-- nothing is thrown by who answers
abbrev pub NeverThrows : (Q W : Type 0) → Ask Q W → Type 0
NeverThrows Q W ask = (o : TableOp) (w to : W) (t : Thrown) → ask o w ≡ Throws t to → ⊥

-- Each statement of a program's code runs as often as its counter tells, where the program's run and the code's end with a value or a throw.
abbrev pub CountsTell : (Q W : Type 0) → Checked → Type 0
CountsTell Q W P = (ask : Ask Q W) → NeverThrows Q W ask → (heap : List Object) (world : W) (method : ℕ) (args : List Value)
    → (s : Shared (Marked W)) (g : Traced W) → EndsAt (exec_with_marks ask (source_from P) heap world method args) s → EndsAt (code_run (lowered P) ask heap world method args) g
    → (number : ℕ) (node : Node) (c : Counter) → numbered (lowered P).nodes number ≡ Some node → node.kind ≡ Normal → node.counter ≡ Some c
    → runs_of number g.ran ≡ times (mark_of c) s.world.marks

-- The counters of the code of a typed program tell how often its statements run.
abbrev pub CountsAreRuns : (Q W : Type 0) → Type 0
CountsAreRuns Q W = (P : Checked) → IsTyped (source_from P) → AreKnown P.program.classes P.facts.classes → AreNumbered P → CountsTell Q W P
