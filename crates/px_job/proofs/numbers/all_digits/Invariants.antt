use Rattle.std.proofs.Common.{◌≡◌, length}
use Rattle.std.specs.List.{list_all}
use Rattle.px_job.specs.Words.{words_of}
use Rattle.px_job.specs.Arguments.{is_digits}
use Rattle.px_job.proofs.numbers.all_digits.Given as goal

abbrev pub invariant-loop-word : goal.invariant-loop-word
invariant-loop-word l = list_all is_digits (words_of l.rest) ≡ list_all is_digits (words_of l.line)

abbrev pub decreases-loop-word : goal.decreases-loop-word
decreases-loop-word l = length l.rest
