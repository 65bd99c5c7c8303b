use Rattle.std.proofs.Common.{◌≡◌, replicate}
use Rattle.px_mean.specs.Facts.{element_default}
use Rattle.px_plain.proofs.effects.elements.Given as goal

abbrev pub invariant-loop : goal.invariant-loop
invariant-loop l = l.values ≡ replicate l.counter (element_default l.element)
