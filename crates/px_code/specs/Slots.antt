-- Slots whose writes are forgotten.
use Rattle.std.specs.Prelude.{false, List, map}
use Rattle.px_code.specs.declared.frame.Slot.{Slot}

abbrev pub settled : Slot → Slot
settled s = record s { written = false }

abbrev pub all_settled : List Slot → List Slot
all_settled slots = map settled slots
