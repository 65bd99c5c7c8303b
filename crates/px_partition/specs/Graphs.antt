-- The partition graph of code.
use Rattle.std.specs.Prelude.{◌≡◌, ℕ, ◌+◌, nat_eq, unwrap_or, Bool, false, List, [], ◌∷◌, map, Option, Some, None, if◌then◌else◌}
use Rattle.std.specs.HashMap.{HashMap, get}
use Rattle.px_code.specs.declared.counts.Counts.{Counts}
use Rattle.px_normal.specs.declared.node.Node.{Node}
use Rattle.px_normal.specs.declared.node.NodeKind.{NodeKind}
use Rattle.px_normal.specs.declared.node.NodeKind.TheVariants.{Normal}
use Rattle.px_normal.specs.declared.node.Counter.{Counter}
use Rattle.px_normal.specs.declared.method.Method.{Method}
use Rattle.px_normal.specs.declared.code.Code.{Code}
use Rattle.px_depend.specs.declared.edge.Edge.{Edge as Dependence}
use Rattle.px_depend.specs.Order.{AreEdges}
use Rattle.px_graph.specs.declared.graph.Group.{Group}
use Rattle.px_graph.specs.declared.graph.Graph.{Graph}
use Rattle.px_partition.specs.declared.rates.Rates.{Rates}
use Rattle.px_partition.specs.Runs.{told_by}
use Rattle.px_partition.specs.Weights.{weighed}

-- what a node adds to the load of the server that it is at: a statement its runs
abbrev pub load_by : Counts → NodeKind → Option Counter → ℕ
load_by counts Normal counter = told_by counts counter
load_by counts _ counter = 0

abbrev pub load_of : Counts → Node → ℕ
load_of counts node = load_by counts node.kind node.counter

abbrev pub is_method : ℕ → Option ℕ → Bool
is_method method None = false
is_method method (Some number) = nat_eq method number

-- the numbers, from one on, of the nodes that stand in a method
abbrev pub nodes_in : ℕ → ℕ → List Node → List ℕ
nodes_in method number [] = []
nodes_in method number (node ∷ nodes) = if is_method method node.method then number ∷ nodes_in method (number + 1) nodes else nodes_in method (number + 1) nodes

-- the map has the nodes of each method
abbrev pub AreGroups : {S : Type 0} → HashMap ℕ (List ℕ) S → List Node → Type 0
AreGroups {S} by nodes = (method : ℕ) → unwrap_or (get nat_eq by method) [] ≡ nodes_in method 1 nodes

abbrev pub group : List Node → ℕ → Group
group nodes method = record { nodes = nodes_in method 1 nodes }

-- of the methods from a number on
abbrev pub groups : List Node → ℕ → List Method → List Group
groups nodes number [] = []
groups nodes number (method ∷ methods) = group nodes number ∷ groups nodes (number + 1) methods

abbrev pub graph_of : Code → Counts → Rates → List Dependence → Graph
graph_of code counts rates dependences = record { edges = map (weighed code counts rates) dependences; counts = map (load_of counts) code.nodes; methods = groups code.nodes 1 code.methods }

-- an edge for each dependence of the code
pub record IsGraph (code : Code) (counts : Counts) (rates : Rates) (graph : Graph) : Type 0 where
  pub dependences : List Dependence
  pub are : AreEdges code dependences
  pub is : graph ≡ graph_of code counts rates dependences
