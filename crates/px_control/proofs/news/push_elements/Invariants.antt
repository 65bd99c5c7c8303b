use Rattle.std.proofs.Common.{◌≡◌, ◌++◌}
use Rattle.std.specs.Prelude.{replicate}
use Rattle.px_effects.specs.Cells.{element_default}
use Rattle.px_control.proofs.news.push_elements.Given as goal

abbrev pub invariant-loop : goal.invariant-loop
invariant-loop l = l.cells ≡ l.fn.cells ++ replicate l.counter (element_default l.element)
