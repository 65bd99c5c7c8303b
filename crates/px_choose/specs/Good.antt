-- What a choice is good for. It may be that several changes together would be cheaper.
use Rattle.std.specs.Prelude.{◌≡◌, ◌≤◌, ◌<◌, ℕ, List, length, Some}
use Rattle.px_code.specs.declared.side.Side.{Side}
use Rattle.px_code.specs.declared.side.Side.TheVariants.{App, Db}
use Rattle.px_code.specs.Places.{numbered}
use Rattle.px_graph.specs.declared.graph.Graph.{Graph}
use Rattle.px_graph.specs.declared.graph.Group.{Group}
use Rattle.px_graph.specs.Costs.{cost}
use Rattle.px_choose.specs.Placements.{Pins, flipped, moved, all_at}
use Rattle.px_choose.specs.Sums.{free_load}

-- a change of a placement: one free node flips, or those of one method go to a side
pub data Changes (graph : Graph) (pins : Pins) (sides : List Side) : List Side → Type 0 where
  flips : (node : ℕ) → 0 < node → node ≤ length pins → Changes graph pins sides (flipped pins node sides)
  moves : (k : ℕ) (group : Group) (side : Side) → numbered graph.methods k ≡ Some group → Changes graph pins sides (moved pins group.nodes side sides)

pub record IsGood (graph : Graph) (budget : ℕ) (pins : Pins) (sides : List Side) : Type 0 where
  pub size : length sides ≡ length pins
  pub pinned : (node : ℕ) (side : Side) → numbered pins node ≡ Some (Some side) → numbered sides node ≡ Some side
  pub load : free_load graph pins sides ≤ budget
  pub below_app : cost graph sides ≤ cost graph (all_at App pins)
  pub below_db : free_load graph pins (all_at Db pins) ≤ budget → cost graph sides ≤ cost graph (all_at Db pins)
  -- no change that fits is cheaper
  pub local : (after : List Side) → Changes graph pins sides after → free_load graph pins after ≤ budget → cost graph sides ≤ cost graph after
