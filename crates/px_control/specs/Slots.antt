-- Slots as the machine has them.
use Rattle.px_control.specs.declared.slot.Slot.{Slot as SlotData}
use Rattle.px_blocks.specs.Machine.{Slot}

abbrev pub slot_of : SlotData → Slot
slot_of s = record { value = s.value; written = s.written }
