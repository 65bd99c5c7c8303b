-- What a change at one node does to the sums: the edges at a node, and what they cost.
use Rattle.std.specs.Prelude.{ℕ, ◌+◌, ◌-◌, nat_eq, Bool, true, false, not, List, [], ◌∷◌, ◌++◌, Option, Some, None, if◌then◌else◌}
use Rattle.px_code.specs.declared.side.Side.{Side}
use Rattle.px_code.specs.Places.{other, numbered, side_of, same_side}
use Rattle.px_graph.specs.declared.edge.End.{End}
use Rattle.px_graph.specs.declared.edge.End.TheVariants as end
use Rattle.px_graph.specs.declared.edge.Edge.{Edge}
use Rattle.px_graph.specs.Costs.{side_of_end}
use Rattle.px_choose.specs.Placements.{Pins, set_number, flipped}

-- the number of the node at an end; 0 at the two ends that are fixed
abbrev pub number_of : End → ℕ
number_of end.App = 0
number_of end.Db = 0
number_of (end.Node node) = node

abbrev pub differ : Bool → Bool → Bool
differ true b = not b
differ false b = b

-- one end of the edge is the node, and the other is not
abbrev pub touches : ℕ → Edge → Bool
touches node edge = differ (nat_eq (number_of edge.from) node) (nat_eq edge.to node)

-- the other end, seen from a node that the edge touches
abbrev pub far_end : ℕ → Edge → ℕ
far_end node edge = if nat_eq edge.to node then number_of edge.from else edge.to

-- the edges that touch a node, in the order of the list
abbrev pub edges_at : ℕ → List Edge → List Edge
edges_at node [] = []
edges_at node (edge ∷ edges) = if touches node edge then edge ∷ edges_at node edges else edges_at node edges

-- one node at its other side
abbrev pub turned : ℕ → List Side → List Side
turned node sides = set_number sides node (other (side_of sides node))

-- ---- the present sums, and what an edge at a turned node does to them

abbrev pub passed_to : Option ℕ → ℕ → Bool → ℕ → List ℕ → List ℕ
passed_to None far same weight cuts = cuts
passed_to (Some cut) far same weight cuts = set_number cuts far (if same then cut + weight else cut - weight)

-- the node at the far end has one cut edge more, or one less
abbrev pub passed : List Side → ℕ → Edge → List ℕ → List ℕ
passed sides node edge cuts = passed_to (numbered cuts (far_end node edge)) (far_end node edge) (same_side (side_of_end sides edge.from) (side_of sides edge.to)) edge.weight cuts

-- ---- turning nodes back, the last one first

abbrev pub back : Pins → List ℕ → List Side → List Side
back pins [] sides = sides
back pins (node ∷ nodes) sides = flipped pins node (back pins nodes sides)

-- ---- the lists of edges by node

abbrev pub pushed_to : Option (List Edge) → ℕ → Edge → List (List Edge) → List (List Edge)
pushed_to None node edge lists = lists
pushed_to (Some edges) node edge lists = set_number lists node (edges ++ edge ∷ [])

abbrev pub pushed : ℕ → Edge → List (List Edge) → List (List Edge)
pushed node edge lists = pushed_to (numbered lists node) node edge lists

-- an edge from a node to itself is at no node: it never costs
abbrev pub with_edge : Edge → List (List Edge) → List (List Edge)
with_edge edge lists = if nat_eq (number_of edge.from) edge.to then lists else pushed (number_of edge.from) edge (pushed edge.to edge lists)

abbrev pub with_edges : List Edge → List (List Edge) → List (List Edge)
with_edges [] lists = lists
with_edges (edge ∷ edges) lists = with_edges edges (with_edge edge lists)
