use Rattle.std.proofs.Common.{◌≡◌, ◌+◌, ◌≤◌, length}
use Rattle.px_job.specs.Lines.{lines_of}
use Rattle.px_job.specs.Beyond.{budget_from}
use Rattle.px_job.proofs.beyond.first_budget.Given as goal

abbrev pub invariant-loop-rest : goal.invariant-loop-rest
invariant-loop-rest l =
    record {
      same : budget_from l.number (lines_of l.rest) ≡ budget_from 1 (lines_of l.bytes);
      within : l.number + length l.rest ≤ length l.bytes + 1;
    }

abbrev pub decreases-loop-rest : goal.decreases-loop-rest
decreases-loop-rest l = length l.rest
