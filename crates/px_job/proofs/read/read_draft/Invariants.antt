use Rattle.std.proofs.Common.{◌≡◌, ◌+◌, ◌≤◌, length}
use Rattle.px_job.specs.Lines.{lines_of}
use Rattle.px_job.specs.Against.{against}
use Rattle.px_job.specs.Jobs.{drafted_from, nothing_yet}
use Rattle.px_job.proofs.read.read_draft.Given as goal

abbrev pub invariant-loop-rest : goal.invariant-loop-rest
invariant-loop-rest l =
    record {
      same : drafted_from (against l.fn.known) l.number l.draft (lines_of l.rest) ≡ drafted_from (against l.fn.known) 1 (nothing_yet l.fn.known.sessions) (lines_of l.bytes);
      within : l.number + length l.rest ≤ length l.bytes + 1;
    }

abbrev pub decreases-loop-rest : goal.decreases-loop-rest
decreases-loop-rest l = length l.rest
