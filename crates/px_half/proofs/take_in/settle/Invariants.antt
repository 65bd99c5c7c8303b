use Rattle.std.proofs.Common.{◌≡◌, ◌++◌, map, take, drop, length}
use Rattle.px_half.specs.Absorbed.{settled_frame}
use Rattle.px_half.proofs.take_in.settle.Given as goal

abbrev pub invariant-loop-frame : goal.invariant-loop-frame
invariant-loop-frame l = record {
  same : length l.frames.items ≡ length l.fn.frames.items;
  done : map settled_frame (take l.frame l.fn.frames.items) ++ drop l.frame l.fn.frames.items ≡ l.frames.items;
}
