-- The values of a frame's slots.
use Rattle.std.specs.Prelude.{List, map}
use Rattle.px_value.specs.declared.value.Value.{Value}
use Rattle.px_acts.specs.declared.frame.Slot.{Slot}

abbrev pub values_in : List Slot → List Value
values_in slots = map (λ (s : Slot). s.value) slots
