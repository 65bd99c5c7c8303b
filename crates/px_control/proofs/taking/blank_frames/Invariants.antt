use Rattle.std.proofs.Common.{◌≡◌, ◌++◌, map, drop}
use Rattle.px_blocks.specs.Plan.{Plan}
use Rattle.px_blocks.specs.Message.{blank_frame}
use Rattle.px_control.proofs.taking.blank_frames.Given as goal

abbrev pub invariant-loop-frame : goal.invariant-loop-frame
invariant-loop-frame l = (plan : Plan) → plan.code ≡ l.fn.code → l.frames.items ++ map (blank_frame plan) (drop l.frame-index l.fn.told) ≡ map (blank_frame plan) l.fn.told
