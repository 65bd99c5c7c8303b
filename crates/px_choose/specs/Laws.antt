-- There is one choice, and it is good; what a flip, and what a move, changes of the cost.
use Rattle.std.specs.Prelude.{◌≡◌, ℕ, ◌+◌, nat_eq, Bool, true, false, not, ◌&&◌, ◌||◌, List, [], ◌∷◌, length, if◌then◌else◌}
use Rattle.px_code.specs.declared.side.Side.{Side}
use Rattle.px_code.specs.Places.{side_of, same_side}
use Rattle.px_graph.specs.declared.edge.Edge.{Edge}
use Rattle.px_graph.specs.declared.graph.Graph.{Graph}
use Rattle.px_graph.specs.Costs.{cost_of, whole}
use Rattle.px_choose.specs.Placements.{Pins, is_free, flipped, moved}
use Rattle.px_choose.specs.Choices.{IsChoice}
use Rattle.px_choose.specs.Good.{IsGood}
use Rattle.px_choose.specs.Gains.{number_of, differ, edges_at}

abbrev pub ChoiceIsOne : Type 0
ChoiceIsOne = (graph : Graph) (budget : ℕ) (pins : Pins) (p q : List Side) → IsChoice graph budget pins p → IsChoice graph budget pins q → p ≡ q

abbrev pub ChoicesAreGood : Type 0
ChoicesAreGood = (graph : Graph) (budget : ℕ) (pins : Pins) (p : List Side) → IsChoice graph budget pins p → IsGood graph budget pins p

-- the edges at a node cost something before, and the rest of their weights after; all other edges cost what they did
abbrev pub FlipCosts : Type 0
FlipCosts = (es : List Edge) (pins : Pins) (n : ℕ) (p : List Side) → is_free pins n ≡ true → length p ≡ length pins → (cost_of es (flipped pins n p) + cost_of (edges_at n es) p ≡ cost_of es p + cost_of (edges_at n es) (flipped pins n p)) × (cost_of (edges_at n es) (flipped pins n p) + cost_of (edges_at n es) p ≡ whole (edges_at n es))

abbrev pub has : List ℕ → ℕ → Bool
has [] k = false
has (n ∷ ns) k = nat_eq n k || has ns k

-- the nodes that go elsewhere: the free ones among these that are at the other side
abbrev pub goes_to : Pins → List ℕ → Side → List Side → ℕ → Bool
goes_to pins ns side p k = is_free pins k && (has ns k && not (same_side (side_of p k) side))

-- the edges that have one end among some nodes, and only one
abbrev pub edges_out : (ℕ → Bool) → List Edge → List Edge
edges_out among [] = []
edges_out among (e ∷ es) = if differ (among (number_of e.from)) (among e.to) then e ∷ edges_out among es else edges_out among es

-- the edges with one end among the nodes that go cost something before, and the rest of their weights after
abbrev pub MoveCosts : Type 0
MoveCosts = (es : List Edge) (pins : Pins) (ns : List ℕ) (side : Side) (p : List Side) → length p ≡ length pins → (cost_of es (moved pins ns side p) + cost_of (edges_out (goes_to pins ns side p) es) p ≡ cost_of es p + cost_of (edges_out (goes_to pins ns side p) es) (moved pins ns side p)) × (cost_of (edges_out (goes_to pins ns side p) es) (moved pins ns side p) + cost_of (edges_out (goes_to pins ns side p) es) p ≡ whole (edges_out (goes_to pins ns side p) es))
