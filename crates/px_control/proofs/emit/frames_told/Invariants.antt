use Rattle.std.proofs.Common.{◌≡◌, ◌++◌, map, drop}
use Rattle.px_blocks.specs.Message.{frame_told}
use Rattle.px_control.proofs.emit.frames_told.Given as goal

abbrev pub invariant-loop-frame : goal.invariant-loop-frame
invariant-loop-frame l = l.told.items ++ map frame_told (drop l.frame-index l.fn.frames) ≡ map frame_told l.fn.frames
