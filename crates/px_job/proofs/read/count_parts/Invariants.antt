use Rattle.std.proofs.Common.{◌≡◌, ◌+◌, ◌≤◌, length}
use Rattle.px_job.specs.Lines.{lines_of}
use Rattle.px_job.specs.Judging.{parts_in}
use Rattle.px_job.proofs.read.count_parts.Given as goal

abbrev pub invariant-loop-rest : goal.invariant-loop-rest
invariant-loop-rest l =
    record {
      same : l.count + parts_in (lines_of l.rest) ≡ parts_in (lines_of l.bytes);
      within : l.count + length l.rest ≤ length l.bytes;
    }

abbrev pub decreases-loop-rest : goal.decreases-loop-rest
decreases-loop-rest l = length l.rest
