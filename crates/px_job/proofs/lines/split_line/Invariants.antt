use Rattle.std.proofs.Common.{◌≡◌, ◌≤◌, ◌-◌, length, take, drop}
use Rattle.px_job.specs.Lines.{lines_of}
use Rattle.px_job.proofs.Pieces.{with_front}
use Rattle.px_job.proofs.lines.split_line.Given as goal

abbrev pub invariant-loop-len : goal.invariant-loop-len
invariant-loop-len l =
    record {
      lines : lines_of l.bytes ≡ with_front (take l.len l.bytes) (lines_of (drop l.len l.bytes));
      within : l.len ≤ length l.bytes;
    }

abbrev pub decreases-loop-len : goal.decreases-loop-len
decreases-loop-len l = length l.bytes - l.len
