use Rattle.std.proofs.Common.{◌≡◌, ◌++◌, map, drop}
use Rattle.px_blocks.specs.Plan.{Plan}
use Rattle.px_blocks.specs.Message.{carried}
use Rattle.px_control.specs.Marks.{cell_of}
use Rattle.px_control.proofs.carry.carried.Given as goal

abbrev pub invariant-loop-mark : goal.invariant-loop-mark
invariant-loop-mark g l = (plan : Plan) → plan.home ≡ g.H.Homes.home l.fn.homes → map cell_of l.carried.items ++ carried plan l.fn.heap l.fn.names (map cell_of (drop l.mark-index l.fn.marks)) ≡ carried plan l.fn.heap l.fn.names (map cell_of l.fn.marks)
