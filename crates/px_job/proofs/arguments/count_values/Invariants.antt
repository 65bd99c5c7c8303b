use Rattle.std.proofs.Common.{◌≡◌, ◌+◌, ◌≤◌, length}
use Rattle.std.specs.Option.{option_map}
use Rattle.px_job.specs.Words.{words_of}
use Rattle.px_job.specs.Arguments.{values_counted}
use Rattle.px_job.proofs.arguments.count_values.Given as goal

abbrev pub invariant-loop-word : goal.invariant-loop-word
invariant-loop-word l =
    record {
      same : option_map (λ n. l.count + n) (values_counted (words_of l.rest)) ≡ values_counted (words_of l.line);
      within : l.count + length l.rest ≤ length l.line;
    }

abbrev pub decreases-loop-word : goal.decreases-loop-word
decreases-loop-word l = length l.rest
