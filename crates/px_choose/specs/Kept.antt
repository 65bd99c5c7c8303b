-- What stands beside a graph and a placement: the edges by node, and the present sums.
use Rattle.std.specs.Prelude.{◌≡◌, ℕ, List, length, Some}
use Rattle.px_code.specs.declared.side.Side.{Side}
use Rattle.px_code.specs.Places.{numbered}
use Rattle.px_graph.specs.declared.edge.Edge.{Edge}
use Rattle.px_graph.specs.declared.graph.Graph.{Graph}
use Rattle.px_graph.specs.Costs.{cost_of, cost, whole}
use Rattle.px_choose.specs.declared.links.Links.{Links}
use Rattle.px_choose.specs.declared.state.State.{State}
use Rattle.px_choose.specs.Placements.{Pins}
use Rattle.px_choose.specs.Sums.{free_load}
use Rattle.px_choose.specs.Gains.{edges_at}

-- by number, the edges at each node, and what they weigh
pub record AreLists (es : List Edge) (size : ℕ) (lists : List (List Edge)) : Type 0 where
  pub length : length lists ≡ size
  pub each : (n : ℕ) (xs : List Edge) → numbered lists n ≡ Some xs → xs ≡ edges_at n es

pub record AreWholes (es : List Edge) (size : ℕ) (wholes : List ℕ) : Type 0 where
  pub length : length wholes ≡ size
  pub each : (n w : ℕ) → numbered wholes n ≡ Some w → w ≡ whole (edges_at n es)

-- by number, what the edges at each node cost
pub record AreCuts (es : List Edge) (size : ℕ) (sides : List Side) (cuts : List ℕ) : Type 0 where
  pub length : length cuts ≡ size
  pub each : (n c : ℕ) → numbered cuts n ≡ Some c → c ≡ cost_of (edges_at n es) sides

pub record IsLinked (graph : Graph) (pins : Pins) (links : Links) : Type 0 where
  pub lists : AreLists graph.edges (length pins) links.lists.items
  pub wholes : AreWholes graph.edges (length pins) links.wholes.items

-- the present sums are those of the present placement
pub record IsKept (graph : Graph) (pins : Pins) (state : State) : Type 0 where
  pub size : length state.sides.items ≡ length pins
  pub cuts : AreCuts graph.edges (length pins) state.sides.items state.cuts.items
  pub load : state.load ≡ free_load graph pins state.sides.items
  pub cost : state.cost ≡ cost graph state.sides.items
