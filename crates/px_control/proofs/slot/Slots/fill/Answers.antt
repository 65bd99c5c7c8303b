use Rattle.std.proofs.Common.{List, slice_set, ap, ◌∙◌}
use Rattle.std.proofs.lemmas.List.{map-set}
use Rattle.px_blocks.specs.Machine.{Slot, just_written}
use Rattle.px_control.specs.Slots.{slot_of}
use Rattle.px_control.proofs.slot.Slots.fill.Goals as goal

pub returns : goal.returns
returns c = map-set slot_of c.self.inside.items.items c.args.at _ ∙ ap (λ (xs : List Slot). slice_set xs c.args.at (just_written c.args.value)) c.self.view_is
