use Rattle.std.proofs.Common.{◌≡◌, ◌≤◌, length}
use Rattle.px_job.specs.Words.{words_of}
use Rattle.px_job.proofs.words.without_spaces.Given as goal

abbrev pub invariant-loop-rest : goal.invariant-loop-rest
invariant-loop-rest l =
    record {
      words : words_of l.rest ≡ words_of l.line;
      shorter : length l.rest ≤ length l.line;
    }

abbrev pub decreases-loop-rest : goal.decreases-loop-rest
decreases-loop-rest l = length l.rest
