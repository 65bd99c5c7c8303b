use Rattle.std.proofs.Common.{◌≡◌, ℕ, ◌||◌, drop}
use Rattle.px_job.specs.Prints.{is_print, has_node}
use Rattle.px_job.proofs.prints.set_of.Given as goal

abbrev pub invariant-loop-number : goal.invariant-loop-number
invariant-loop-number l = (n : ℕ) → (has_node l.set n || is_print (drop l.number-index l.numbers) n) ≡ is_print l.numbers n
