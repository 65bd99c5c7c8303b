-- The load of the free nodes at DB, which the budget bounds.
use Rattle.std.specs.Prelude.{◌<◌, ◌^◌, ◌-◌, ℕ, ◌+◌, List, [], ◌∷◌, length, if◌then◌else◌, ◌&&◌}
use Rattle.px_code.specs.declared.side.Side.{Side}
use Rattle.px_code.specs.Places.{side_of}
use Rattle.px_graph.specs.declared.graph.Graph.{Graph}
use Rattle.px_graph.specs.Costs.{cost}
use Rattle.px_graph.specs.Loads.{is_db}
use Rattle.px_choose.specs.Placements.{Pins, is_free}

abbrev pub free_load_at : Pins → List Side → ℕ → ℕ → ℕ
free_load_at pins sides node count = if is_free pins node && is_db (side_of sides node) then count else 0

-- the first count is that of this node
abbrev pub free_load_from : ℕ → List ℕ → Pins → List Side → ℕ
free_load_from node [] pins sides = 0
free_load_from node (count ∷ counts) pins sides = free_load_at pins sides node count + free_load_from (node + 1) counts pins sides

abbrev pub free_load : Graph → Pins → List Side → ℕ
free_load graph pins sides = free_load_from 1 graph.counts pins sides

-- no sum of any placement passes the end of its type
pub record IsSmall (graph : Graph) : Type 0 where
  pub costs : (sides : List Side) → cost graph sides < 2 ^ 128
  pub nodes : length graph.counts < 2 ^ 32 - 1
  pub loads : (pins : Pins) (sides : List Side) → free_load graph pins sides < 2 ^ 64
