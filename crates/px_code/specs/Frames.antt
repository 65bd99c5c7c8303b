-- The frames with which a call begins.
use Rattle.std.specs.Prelude.{ℕ, false, List, [], ◌∷◌, ◌++◌, length, map, drop, Option, Some, None}
use Rattle.px_value.specs.declared.value.Value.{Value}
use Rattle.px_value.specs.declared.value.Value.TheVariants.{Null, Ref}
use Rattle.px_value.specs.declared.ty.Ty.{Ty}
use Rattle.px_value.specs.Defaults.{default_of}
use Rattle.px_code.specs.declared.method.Method.{Method}
use Rattle.px_code.specs.declared.frame.Frame.{Frame}
use Rattle.px_code.specs.declared.frame.Slot.{Slot}
use Rattle.px_code.specs.CodeRun.{method_at}
use Rattle.px_code.specs.Machine.{just_written}

abbrev pub blank : Value → Slot
blank v = record { value = v; written = false }

abbrev pub root_slots : List Slot
root_slots = blank Null ∷ []

abbrev pub root_frame : Frame
root_frame = record { method = 0; back = 0; slots = root_slots }

abbrev pub types_of : Option Method → List Ty
types_of None = []
types_of (Some m) = m.slots

abbrev pub entry_slots : List Ty → List Value → List Slot
entry_slots types args = map just_written args ++ map (λ t. blank (default_of t)) (drop (length args) types)

abbrev pub entry_frame : List Method → ℕ → List Value → Frame
entry_frame methods method args = record { method = method; back = 0; slots = entry_slots (types_of (method_at methods method)) (Ref 0 ∷ args) }
