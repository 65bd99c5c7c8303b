-- What the frames of a call share, and runs over it.
use Rattle.std.specs.Prelude.{ℕ, ◌+◌, nat_lt, List, Result, Ok, Err, if◌then◌else◌}
use Rattle.px_value.specs.declared.object.Object.{Object}
use Rattle.px_value.specs.declared.answer.Answer.{Answer}
use Rattle.px_value.specs.declared.statement.TableOp.{TableOp}
use Rattle.px_value.specs.declared.thrown.Thrown.{Thrown}
use Rattle.px_value.specs.declared.thrown.Thrown.TheVariants.{TurnsOut}
pub use Rattle.px_value.specs.Limits.{max_turns}
use Rattle.px_value.specs.Outcome.{Outcome, Gives, Throws, Asks, Run, pure, throw}

-- what all frames of a call share; the world W answers what the program asks of outside
pub record Shared (W : Type 0) : Type 0 where
  pub heap : List Object
  pub world : W
  -- the texts of the printed lines, the first first
  pub prints : List (List ℕ)
  -- the tests of loops and the calls of methods that were made
  pub turns : ℕ
  -- what was asked of the tables
  pub operations : ℕ

-- in what frames share; Q is what may be asked with no answer there
abbrev pub There : Type 0 → Type 0 → Type 0 → Type 0
There Q W A = Run Q (Shared W) A

-- how the world answers what is asked of the tables
abbrev pub Ask : Type 0 → Type 0 → Type 0
Ask Q W = TableOp → Run Q W Answer

-- what comes to a value or to a throw, whatever the state
abbrev pub came_to : {Q S A : Type 0} → Result A Thrown → Run Q S A
came_to (Ok v) = pure v
came_to (Err t) = throw t

-- a test of a loop or a call of a method is counted
abbrev pub turn : {Q W : Type 0} → There Q W (Unit {0})
turn = λ s. if nat_lt s.turns max_turns then Gives tt (record s { turns = s.turns + 1 }) else Throws TurnsOut s

-- what the world does, with all else as it was
abbrev pub in_world : {Q W A : Type 0} → Shared W → Outcome Q W A → Outcome Q (Shared W) A
in_world s (Gives a world) = Gives a (record s { world = world })
in_world s (Throws t world) = Throws t (record s { world = world })
in_world s (Asks q world) = Asks q (record s { world = world })

abbrev pub asked : {Q W : Type 0} → Ask Q W → TableOp → There Q W Answer
asked ask o = λ s. in_world s (ask o s.world)
