use Rattle.std.proofs.Common.{◌≡◌, length, drop}
use Rattle.px_code.specs.Places.{numbered}
use Rattle.px_choose.specs.Gains.{turned}
use Rattle.px_choose.proofs.Passing.{Passing}
use Rattle.px_choose.proofs.turn.spread.Given as goal

abbrev pub invariant-loop-edge : goal.invariant-loop-edge
invariant-loop-edge l = record {
  size : length l.cuts.items ≡ length l.fn.cuts.items;
  here : numbered l.cuts.items l.node ≡ numbered l.fn.cuts.items l.node;
  passing : Passing l._graph.edges l.node l.sides (turned l.node l.sides) (drop l.edge-index l.edges) l.cuts.items;
}
