use Rattle.std.proofs.Common.{◌≡◌, vec_len, vec_capacity}
use Rattle.px_blocks.specs.Message.{settled_frame}
use Rattle.px_control.proofs.InPlace.{so_far}
use Rattle.px_control.proofs.taking.settle_from.Given as goal

abbrev pub invariant-loop-frame : goal.invariant-loop-frame
invariant-loop-frame l = record {
  len : vec_len l.frames ≡ vec_len l.fn.frames;
  capacity : vec_capacity l.frames ≡ vec_capacity l.fn.frames;
  done : so_far settled_frame l.fn.frames.items l.frame ≡ l.frames.items;
}
