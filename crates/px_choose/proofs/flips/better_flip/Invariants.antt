use Rattle.std.proofs.Common.{◌≡◌, ◌+◌, drop}
use Rattle.px_choose.specs.Choices.{first_flip}
use Rattle.px_choose.proofs.flips.better_flip.Given as goal

abbrev pub invariant-loop-pin : goal.invariant-loop-pin
invariant-loop-pin l = record {
  number : l.node ≡ l._pin-index + 1;
  rest : first_flip l.graph l.budget l.pins l.state.sides.items l.node (drop l._pin-index l.pins) ≡ first_flip l.graph l.budget l.pins l.state.sides.items 1 l.pins;
}
