-- No sum of a placement is more than that of all.
use Rattle.std.proofs.Common.{◌≤◌, ℕ, ◌+◌, Bool, true, false, List, [], ◌∷◌, if◌then◌else◌, arith}
use Rattle.px_code.specs.declared.side.Side.{Side}
use Rattle.px_code.specs.Places.{side_of, same_side}
use Rattle.px_graph.specs.declared.edge.Edge.{Edge}
use Rattle.px_graph.specs.Costs.{side_of_end, edge_cost, cost_of, whole}
use Rattle.px_graph.specs.Loads.{is_db, load_from, total}

part_le : (sides : List Side) (edge : Edge) → edge_cost sides edge ≤ edge.weight
part_le sides edge = by (same_side (side_of_end sides edge.from) (side_of sides edge.to))
  where
    by : (b : Bool) → (if b then 0 else edge.weight) ≤ edge.weight
    by true = omega arith
    by false = omega arith

pub cost_le : (edges : List Edge) (sides : List Side) → cost_of edges sides ≤ whole edges
cost_le [] sides = omega arith
cost_le (edge ∷ edges) sides = let a = part_le sides edge in let b = cost_le edges sides in omega (arith, a, b)

pub load_le : (node : ℕ) (counts : List ℕ) (sides : List Side) → load_from node counts sides ≤ total counts
load_le node [] sides = omega arith
load_le node (count ∷ counts) sides = by (is_db (side_of sides node)) (load_le (node + 1) counts sides)
  where
    by : (b : Bool) → load_from (node + 1) counts sides ≤ total counts → (if b then count else 0) + load_from (node + 1) counts sides ≤ count + total counts
    by true h = omega (arith, h)
    by false h = omega (arith, h)
