-- How much there is in the code of an accepted program.
use Rattle.std.specs.Prelude.{◌≡◌, ℕ, ◌+◌, ◌≤◌, ◌<◌, ◌^◌, List, length, Some}
use Rattle.px_value.specs.declared.schema.Schema.{Schema}
use Rattle.px_tree.specs.declared.Program.{Program}
use Rattle.px_type_rules.specs.Breaches.{max_methods}
use Rattle.px_types.specs.Programs.{max_classes, max_fields}
use Rattle.px_types.specs.Methods.{max_tokens}
use Rattle.px_types.specs.Checked.{checked_of}
use Rattle.px_soundness.specs.Laws.{IsAccepted}
use Rattle.px_normal.specs.declared.method.Method.{Method}
use Rattle.px_normal.specs.declared.code.Code.{Code}
use Rattle.px_normal.specs.First.{numbered, fields_of}
use Rattle.px_lowering.specs.Programs.{lowered}

-- A method has at most two slots for each token that it may have, so 16 bits are enough for their numbers.
abbrev pub AcceptedHasFewSlots : Type 0
AcceptedHasFewSlots = (bytes : List ℕ) (program : Program) (schema : Schema) → IsAccepted bytes program schema → (number : ℕ) (method : Method) → numbered (lowered (checked_of program schema)).methods number ≡ Some method → length method.slots ≤ max_tokens + max_tokens

-- no more classes, fields of a class, and methods than a program may have; and 32 bits are enough for the numbers of its nodes
pub record KeepsLimits (code : Code) : Type 0 where
  pub classes : length code.classes ≤ max_classes
  pub fields : (class : ℕ) → length (fields_of code class) ≤ max_fields
  pub methods : length code.methods ≤ max_methods
  pub nodes : length code.nodes < 2 ^ 32

abbrev pub AcceptedKeepsLimits : Type 0
AcceptedKeepsLimits = (bytes : List ℕ) (program : Program) (schema : Schema) → IsAccepted bytes program schema → KeepsLimits (lowered (checked_of program schema))
