use Rattle.std.proofs.Common.{◌≡◌, replicate}
use Rattle.px_mean.specs.Entry.{first_heap}
use Rattle.px_plain.proofs.plain.first_heaps.Given as goal

abbrev pub invariant-loop : goal.invariant-loop
invariant-loop l = l.heaps.items ≡ replicate l.counter (first_heap l.facts)
