-- What a run carries from statement to statement and from frame to frame.
use Rattle.std.specs.Prelude.{List, [], ◌∷◌, ◌++◌}
use Rattle.px_value.specs.declared.value.Value.{Value}
use Rattle.px_value.specs.Outcome.{Run, ◌>>=◌, pure, State}
pub use Rattle.px_effects.specs.Run.{Shared, There, came_to, turn, max_turns}

-- a frame has its locals by slot
abbrev pub Frame : Type 0 → Type 0
Frame W = State (List Value) (Shared W)

abbrev pub with_slots : {W : Type 0} → Frame W → List Value → Frame W
with_slots s slots = record s { locals = slots }

-- in a frame; Q is what may be asked with no answer there
abbrev pub Here : Type 0 → Type 0 → Type 0 → Type 0
Here Q W A = Run Q (Frame W) A

-- one run after the other, each result behind those that are there (JLS 15.7)
abbrev pub gather : {Q S A : Type 0} → List A → List (Run Q S A) → Run Q S (List A)
gather there [] = pure there
gather there (r ∷ rs) = r >>= (λ a. gather (there ++ a ∷ []) rs)
