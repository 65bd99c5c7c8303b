use Rattle.std.proofs.Common.{◌≡◌, ◌+◌, ◌≤◌, false, length}
use Rattle.px_job.specs.Lines.{lines_of}
use Rattle.px_job.specs.Beyond.{beyond_from}
use Rattle.px_job.proofs.beyond.first_beyond.Given as goal

abbrev pub invariant-loop-rest : goal.invariant-loop-rest
invariant-loop-rest l =
    record {
      same : beyond_from l.number l.parted (lines_of l.rest) ≡ beyond_from 1 false (lines_of l.bytes);
      within : l.number + length l.rest ≤ length l.bytes + 1;
    }

abbrev pub decreases-loop-rest : goal.decreases-loop-rest
decreases-loop-rest l = length l.rest
