-- What is planned for a part of a job.
use Rattle.std.specs.Prelude.{◌≡◌, ℕ, List, Option, Some, None}
use Rattle.px_code.specs.declared.side.Side.{Side}
use Rattle.px_code.specs.declared.side.Side.TheVariants.{App, Db}
use Rattle.px_graph.specs.declared.graph.Graph.{Graph}
use Rattle.px_graph.specs.Costs.{cost as cost_in}
use Rattle.px_graph.specs.Loads.{load as load_in}
use Rattle.px_choose.specs.Placements.{Pins, all_at}
use Rattle.px_choose.specs.Choices.{IsChoice}
use Rattle.px_choose.specs.Good.{IsGood}
use Rattle.px_partition.specs.declared.plan.Plan.{Plan}

-- the rule's choice, and what that is good for
pub record IsChosen (graph : Graph) (budget : ℕ) (pins : Pins) (sides : List Side) : Type 0 where
  pub choice : IsChoice graph budget pins sides
  pub good : IsGood graph budget pins sides

-- under a budget the chooser places what isn't pinned; without one all sides are given
abbrev pub IsPlaced : Graph → Option ℕ → Pins → List Side → Type 0
IsPlaced graph None pins sides = sides ≡ all_at App pins
IsPlaced graph (Some budget) pins sides = IsChosen graph budget pins sides

-- what is pinned beside what might be anywhere: without a budget the prints alone
abbrev pub free_pins : Option ℕ → (pins prints : Pins) → Pins
free_pins None pins prints = prints
free_pins (Some budget) pins prints = pins

pub record IsPlan (graph : Graph) (budget : Option ℕ) (pins prints : Pins) (plan : Plan) : Type 0 where
  pub placed : IsPlaced graph budget pins plan.placement.sides
  pub cost : plan.cost ≡ cost_in graph plan.placement.sides
  pub load : plan.load ≡ load_in graph plan.placement.sides
  pub app : plan.app ≡ cost_in graph (all_at App (free_pins budget pins prints))
  pub db : plan.db ≡ cost_in graph (all_at Db (free_pins budget pins prints))
