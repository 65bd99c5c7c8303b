use Rattle.std.proofs.Common.{◌≡◌, ◌≤◌, ◌+◌, ◌++◌, length, vec_len, vec_capacity}
use Rattle.std.specs.Vec.Iter.{into_iter_items}
use Rattle.px_control.proofs.taking.push_frames.Given as goal

abbrev pub invariant-loop-frame : goal.invariant-loop-frame
invariant-loop-frame l = record {
  room : vec_len l.frames + length (into_iter_items l.frame-iterator) ≤ vec_capacity l.frames;
  all : l.frames.items ++ into_iter_items l.frame-iterator ≡ l.fn.frames.items ++ l.fn.more.items;
}
