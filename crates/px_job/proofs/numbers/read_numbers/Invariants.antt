use Rattle.std.proofs.Common.{◌≡◌, ◌++◌, length}
use Rattle.std.specs.Option.{option_map}
use Rattle.px_job.specs.Words.{words_of}
use Rattle.px_job.specs.Numbers.{numbers_within}
use Rattle.px_job.proofs.numbers.read_numbers.Given as goal

abbrev pub invariant-loop-word : goal.invariant-loop-word
invariant-loop-word l = option_map (λ more. l.numbers ++ more) (numbers_within l.least l.most (words_of l.rest)) ≡ numbers_within l.least l.most (words_of l.line)

abbrev pub decreases-loop-word : goal.decreases-loop-word
decreases-loop-word l = length l.rest
