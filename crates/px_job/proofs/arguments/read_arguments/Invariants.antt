use Rattle.std.proofs.Common.{◌≡◌, ◌+◌, ◌++◌, length, drop}
use Rattle.std.specs.Option.{option_map}
use Rattle.px_job.specs.Words.{words_of}
use Rattle.px_job.specs.Arguments.{arguments_of}
use Rattle.px_job.proofs.arguments.read_arguments.Given as goal

abbrev pub invariant-loop-ty : goal.invariant-loop-ty
invariant-loop-ty l =
    record {
      same : option_map (λ more. l.values ++ more) (arguments_of (drop l.ty-index l.types) (words_of l.rest)) ≡ arguments_of l.types (words_of l.line);
      left : length (words_of l.rest) + l.ty-index ≡ length l.types;
    }
