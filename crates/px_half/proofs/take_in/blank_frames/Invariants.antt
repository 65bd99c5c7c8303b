use Rattle.std.proofs.Common.{◌≡◌, ◌++◌, map, drop}
use Rattle.px_half.specs.Absorbed.{blank_frame}
use Rattle.px_half.proofs.take_in.blank_frames.Given as goal

abbrev pub invariant-loop-frame : goal.invariant-loop-frame
invariant-loop-frame l = l.frames.items ++ map (blank_frame l.fn.plan) (drop l.frame-index l.fn.told) ≡ map (blank_frame l.fn.plan) l.fn.told
