use Rattle.std.proofs.Common.{◌≡◌, drop}
use Rattle.std.specs.List.{list_any}
use Rattle.px_job.specs.Prints.{prints_of, is_print}
use Rattle.px_job.proofs.index.Index.has_print.Given as goal

abbrev pub invariant-loop-number : goal.invariant-loop-number
invariant-loop-number l = list_any (is_print (prints_of l.self.code.now)) (drop l.number-index l.numbers) ≡ list_any (is_print (prints_of l.self.code.now)) l.numbers
