use Rattle.std.proofs.Common.{◌≡◌, ◌+◌, ◌++◌, length, drop}
use Rattle.std.specs.Option.{option_map}
use Rattle.px_job.specs.Words.{words_of}
use Rattle.px_job.specs.Cells.{cells_of}
use Rattle.px_job.proofs.cells.read_cells.Given as goal

abbrev pub invariant-loop-column : goal.invariant-loop-column
invariant-loop-column l =
    record {
      same : option_map (λ more. l.values ++ more) (cells_of (drop l.column-index l.columns) (words_of l.rest)) ≡ cells_of l.columns (words_of l.line);
      left : length (words_of l.rest) + l.column-index ≡ length l.columns;
    }
