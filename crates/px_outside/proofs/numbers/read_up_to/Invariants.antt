use Rattle.std.proofs.Common.{◌≡◌, ◌≤◌, length}
use Rattle.px_outside.specs.Numbers.{digits_after, number_of, up_to}
use Rattle.px_outside.proofs.numbers.read_up_to.Given as goal

abbrev pub invariant-loop-rest : goal.invariant-loop-rest
invariant-loop-rest l =
    record {
      same : up_to l.most (digits_after l.number l.rest) ≡ up_to l.most (number_of l.fn.text);
      small : l.number ≤ l.most;
    }

abbrev pub decreases-loop-rest : goal.decreases-loop-rest
decreases-loop-rest l = length l.rest
