use Rattle.std.proofs.Common.{◌≡◌, replicate}
use Rattle.px_effects.specs.Cells.{element_default}
use Rattle.px_acts.proofs.objects.elements.Given as goal

abbrev pub invariant-loop : goal.invariant-loop
invariant-loop l = l.values ≡ replicate l.counter (element_default l.element)
