-- What a placement costs.
use Rattle.std.specs.Prelude.{ℕ, ◌+◌, List, [], ◌∷◌, if◌then◌else◌}
use Rattle.px_code.specs.declared.side.Side.{Side}
use Rattle.px_code.specs.declared.side.Side.TheVariants.{App, Db}
use Rattle.px_code.specs.Places.{side_of, same_side}
use Rattle.px_graph.specs.declared.edge.End.{End}
use Rattle.px_graph.specs.declared.edge.End.TheVariants as end
use Rattle.px_graph.specs.declared.edge.Edge.{Edge}
use Rattle.px_graph.specs.declared.graph.Graph.{Graph}

abbrev pub side_of_end : List Side → End → Side
side_of_end sides end.App = App
side_of_end sides end.Db = Db
side_of_end sides (end.Node node) = side_of sides node

-- the weight, where the ends are at two sides
abbrev pub edge_cost : List Side → Edge → ℕ
edge_cost sides edge = if same_side (side_of_end sides edge.from) (side_of sides edge.to) then 0 else edge.weight

abbrev pub cost_of : List Edge → List Side → ℕ
cost_of [] sides = 0
cost_of (edge ∷ edges) sides = edge_cost sides edge + cost_of edges sides

abbrev pub cost : Graph → List Side → ℕ
cost graph sides = cost_of graph.edges sides

-- what all edges of a list weigh
abbrev pub whole : List Edge → ℕ
whole [] = 0
whole (edge ∷ edges) = edge.weight + whole edges
