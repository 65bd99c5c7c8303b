use Rattle.std.proofs.Common.{◌≡◌, ◌++◌, drop}
use Rattle.std.specs.List.{list_all}
use Rattle.px_control.specs.Taken.{slot_fits}
use Rattle.px_control.proofs.fitting.slots_fit.Given as goal

abbrev pub invariant-loop-slot : goal.invariant-loop-slot
invariant-loop-slot l = list_all (slot_fits (l.fn.lower ++ l.fn.news) l.fn.count) (drop l.slot-index l.fn.slots) ≡ list_all (slot_fits (l.fn.lower ++ l.fn.news) l.fn.count) l.fn.slots
