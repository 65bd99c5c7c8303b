-- The stack of one end.
use Rattle.std.specs.Prelude.{◌≡◌, ℕ, ◌-◌, ◌≤◌, List, length, take, Option, Some, None}
use Rattle.px_value.specs.declared.value.Value.{Value}
use Rattle.px_value.specs.declared.value.Value.TheVariants.{Ref}
use Rattle.px_blocks.specs.Machine.{Frame, Back, filled}
use Rattle.px_blocks.specs.Message.{all_settled}
use Rattle.px_control.specs.declared.back.Back.{Back as BackData}

-- a value goes to a slot of a frame, where one gets it
abbrev pub filled_if : List Frame → ℕ → Option ℕ → Value → List Frame
filled_if frames f None v = frames
filled_if frames f (Some n) v = filled frames f n v

-- The frames that stood when control came are there, and no slot is written below the highest of them.
pub record IsQuietBelow (base : ℕ) (frames : List Frame) : Type 0 where
  pub within : base ≤ length frames
  pub quiet : all_settled (take (base - 1) frames) ≡ take (base - 1) frames

-- the object of a reference
abbrev pub object_in : Value → Option ℕ
object_in (Ref object) = Some object
object_in _ = None

abbrev pub machine_back : BackData → Back
machine_back b = record { to = b.to; next = b.next }
