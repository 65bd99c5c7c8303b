-- What runs at the database server.
use Rattle.std.specs.Prelude.{ℕ, ◌+◌, Bool, true, false, List, [], ◌∷◌, if◌then◌else◌}
use Rattle.px_code.specs.declared.side.Side.{Side}
use Rattle.px_code.specs.declared.side.Side.TheVariants.{App, Db}
use Rattle.px_code.specs.Places.{side_of}
use Rattle.px_graph.specs.declared.graph.Graph.{Graph}

abbrev pub is_db : Side → Bool
is_db App = false
is_db Db = true

-- the runs of a node, where it is at DB
abbrev pub node_load : List Side → ℕ → ℕ → ℕ
node_load sides node count = if is_db (side_of sides node) then count else 0

-- the first count is that of this node
abbrev pub load_from : ℕ → List ℕ → List Side → ℕ
load_from node [] sides = 0
load_from node (count ∷ counts) sides = node_load sides node count + load_from (node + 1) counts sides

abbrev pub load : Graph → List Side → ℕ
load graph sides = load_from 1 graph.counts sides

abbrev pub total : List ℕ → ℕ
total [] = 0
total (count ∷ counts) = count + total counts
