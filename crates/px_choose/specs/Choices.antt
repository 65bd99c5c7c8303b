-- The rule of the chooser: the first change that fits and is cheaper, again and again.
use Rattle.std.specs.Prelude.{◌≡◌, ℕ, ◌+◌, nat_le, nat_lt, Bool, ◌&&◌, List, [], ◌∷◌, Option, Some, None, if◌then◌else◌}
use Rattle.px_code.specs.declared.side.Side.{Side}
use Rattle.px_code.specs.declared.side.Side.TheVariants.{App, Db}
use Rattle.px_graph.specs.declared.graph.Graph.{Graph}
use Rattle.px_graph.specs.declared.graph.Group.{Group}
use Rattle.px_graph.specs.Costs.{cost}
use Rattle.px_choose.specs.Placements.{Pins, flipped, moved, all_at}
use Rattle.px_choose.specs.Sums.{free_load}

-- a placement fits where the load of its free nodes is at most the budget
abbrev pub fits : Graph → ℕ → Pins → List Side → Bool
fits graph budget pins sides = nat_le (free_load graph pins sides) budget

-- the second fits, and is cheaper than the first
abbrev pub is_better : Graph → ℕ → Pins → List Side → List Side → Bool
is_better graph budget pins before after = fits graph budget pins after && nat_lt (cost graph after) (cost graph before)

abbrev pub if_better : Graph → ℕ → Pins → List Side → List Side → Option (List Side) → Option (List Side)
if_better graph budget pins before after rest = if is_better graph budget pins before after then Some after else rest

-- of the flips from a node on, one for each of the rest of the nodes
abbrev pub first_flip : Graph → ℕ → Pins → List Side → ℕ → Pins → Option (List Side)
first_flip graph budget pins sides node [] = None
first_flip graph budget pins sides node (pin ∷ rest) = if_better graph budget pins sides (flipped pins node sides) (first_flip graph budget pins sides (node + 1) rest)

-- of the moves of whole methods, each to APP and then to DB
abbrev pub first_move : Graph → ℕ → Pins → List Side → List Group → Option (List Side)
first_move graph budget pins sides [] = None
first_move graph budget pins sides (group ∷ groups) = if_better graph budget pins sides (moved pins group.nodes App sides) (if_better graph budget pins sides (moved pins group.nodes Db sides) (first_move graph budget pins sides groups))

abbrev pub or_else : Option (List Side) → Option (List Side) → Option (List Side)
or_else (Some sides) other = Some sides
or_else None other = other

-- flips come first
abbrev pub first_better : Graph → ℕ → Pins → List Side → Option (List Side)
first_better graph budget pins sides = or_else (first_flip graph budget pins sides 1 pins) (first_move graph budget pins sides graph.methods)

-- all at DB where that fits and is cheaper, else all at APP
abbrev pub begin_at : Graph → ℕ → Pins → List Side
begin_at graph budget pins = if is_better graph budget pins (all_at App pins) (all_at Db pins) then all_at Db pins else all_at App pins

-- from the first placement the rule comes to the second
pub data Comes (graph : Graph) (budget : ℕ) (pins : Pins) : List Side → List Side → Type 0 where
  stays : {p : List Side} → first_better graph budget pins p ≡ None → Comes graph budget pins p p
  goes : {p : List Side} (q : List Side) {r : List Side} → first_better graph budget pins p ≡ Some q → Comes graph budget pins q r → Comes graph budget pins p r

-- the placement that the rule fixes
abbrev pub IsChoice : Graph → ℕ → Pins → List Side → Type 0
IsChoice graph budget pins sides = Comes graph budget pins (begin_at graph budget pins) sides
