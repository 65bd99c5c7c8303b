-- Sums fit their types.
use Rattle.std.proofs.Common.{◌≤◌, ◌<◌, ℕ, ◌+◌, ◌^◌, Bool, true, false, List, [], ◌∷◌, if◌then◌else◌, ◌&&◌, arith}
use Rattle.px_code.specs.declared.side.Side.{Side}
use Rattle.px_code.specs.Places.{side_of}
use Rattle.px_graph.specs.declared.graph.Graph.{Graph}
use Rattle.px_graph.specs.Loads.{is_db, total}
use Rattle.px_graph.specs.Problem.{IsProblem}
use Rattle.px_graph.proofs.Sums.{cost_le}
use Rattle.px_choose.specs.Placements.{is_free, Pins}
use Rattle.px_choose.specs.Sums.{free_load_from, free_load, IsSmall}

pub load_le : (m : ℕ) (cs : List ℕ) (pins : Pins) (p : List Side) → free_load_from m cs pins p ≤ total cs
load_le m [] pins p = omega arith
load_le m (c ∷ cs) pins p = by (is_free pins m && is_db (side_of p m)) (load_le (m + 1) cs pins p)
  where
    by : (b : Bool) → free_load_from (m + 1) cs pins p ≤ total cs → (if b then c else 0) + free_load_from (m + 1) cs pins p ≤ c + total cs
    by true h = omega (arith, h)
    by false h = omega (arith, h)

pub small_loads : (G : Graph) (pins : Pins) → IsProblem G pins → (p : List Side) → free_load G pins p < 2 ^ 64
small_loads G pins I p = let a = load_le 1 G.counts pins p in let b = I.counts in omega (arith, a, b)

pub small : (G : Graph) (pins : Pins) → IsProblem G pins → IsSmall G
small G pins I = record {
  costs = λ p. let a = cost_le G.edges p in let b = I.weights in omega (arith, a, b);
  nodes = I.counted;
  loads = λ ps p. let a = load_le 1 G.counts ps p in let b = I.counts in omega (arith, a, b);
}
