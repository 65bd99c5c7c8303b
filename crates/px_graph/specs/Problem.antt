-- A graph whose sums fit their types, and the pins of its nodes.
use Rattle.std.specs.Prelude.{◌<◌, ◌^◌, ◌-◌, List, length, Option}
use Rattle.px_code.specs.declared.side.Side.{Side}
use Rattle.px_graph.specs.declared.graph.Graph.{Graph}
use Rattle.px_graph.specs.Costs.{whole}
use Rattle.px_graph.specs.Loads.{total}

-- the weights leave a bit of their type, so that a sum may stand for a while with one weight more
pub record IsProblem (graph : Graph) (pins : List (Option Side)) : Type 0 where
  pub weights : whole graph.edges < 2 ^ 127
  pub counts : total graph.counts < 2 ^ 64
  pub counted : length graph.counts < 2 ^ 32 - 1
  pub nodes : length pins < 2 ^ 32 - 1
