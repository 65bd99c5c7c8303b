use Rattle.std.proofs.Common.{Some, None, slice_get, sym, ap, ◌∙◌}
use Rattle.px_normal.specs.Words.{operand}
use Rattle.px_blocks.specs.Machine.{values_of, slots_at, top}
use Rattle.px_control.specs.Stack.{object_in}
use Rattle.px_control.proofs.Reading.{read_slot}
use Rattle.px_control.proofs.control.Control.object.Goals as goal

pub returns-in-Some : goal.returns-in-Some
returns-in-Some c =
    let here = c.in-Some.ensures ∙ ap (slice_get c.top_slots.result.now) c.from.ensures in
    c.object_of.ensures ∙ sym (ap object_in (ap (operand (values_of c.args.self.now)) c.in-Slot.is ∙ read_slot c.top_slots.result.now (slots_at c.args.self.now.frames (top c.args.self.now.frames)) c.in-Slot.slot (Some c.in-Some.slot.now) c.top_slots.ensures here))

pub returns-in-None : goal.returns-in-None
returns-in-None c =
    let here = c.in-None.ensures ∙ ap (slice_get c.top_slots.result.now) c.from.ensures in
    sym (ap object_in (ap (operand (values_of c.args.self.now)) c.in-Slot.is ∙ read_slot c.top_slots.result.now (slots_at c.args.self.now.frames (top c.args.self.now.frames)) c.in-Slot.slot None c.top_slots.ensures here))
