use Rattle.std.proofs.Common.{◌≡◌, ◌++◌, drop}
use Rattle.std.specs.Vec.Iter.{into_iter_items}
use Rattle.px_blocks.specs.Machine.{blank_slots, given}
use Rattle.px_control.proofs.Given.{blanks_of}
use Rattle.px_control.proofs.blanks.entered_slots.Given as goal

abbrev pub invariant-loop-ty : goal.invariant-loop-ty
invariant-loop-ty l = l.slots ++ given (into_iter_items l.args) (blanks_of (drop l.ty-index l.ty-items)) ≡ given l.fn.args.items (blank_slots l.code l.method)
