use Rattle.std.proofs.Common.{◌≡◌, ◌++◌, map, drop}
use Rattle.px_half.specs.Messages.{frame_told}
use Rattle.px_half.proofs.emit.push_told.Given as goal

abbrev pub invariant-loop-frame : goal.invariant-loop-frame
invariant-loop-frame l = l.told ++ map frame_told (drop l.frame-index l.fn.frames) ≡ l.fn.told ++ map frame_told l.fn.frames
