use Rattle.std.proofs.Common.{◌≡◌, drop}
use Rattle.std.specs.List.{list_all}
use Rattle.px_half.specs.Absorbed.{frame_fits}
use Rattle.px_half.proofs.take_in.frames_fit.Given as goal

abbrev pub invariant-loop-frame : goal.invariant-loop-frame
invariant-loop-frame l = list_all (frame_fits l.fn.plan) l.fn.frames ≡ list_all (frame_fits l.fn.plan) (drop l.frame-index l.fn.frames)
