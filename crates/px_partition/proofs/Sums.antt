-- Sums of lists that grow.
use Rattle.std.proofs.Common.{◌≡◌, ℕ, ◌+◌, List, [], ◌∷◌, ◌++◌, arith}
use Rattle.px_graph.specs.declared.edge.Edge.{Edge}
use Rattle.px_graph.specs.Costs.{whole}
use Rattle.px_graph.specs.Loads.{total}

pub whole_more : (es : List Edge) (e : Edge) → whole (es ++ e ∷ []) ≡ whole es + e.weight
whole_more [] e = omega arith
whole_more (x ∷ es) e = let a = whole_more es e in omega (arith, a)

pub total_more : (ns : List ℕ) (n : ℕ) → total (ns ++ n ∷ []) ≡ total ns + n
total_more [] n = omega arith
total_more (x ∷ ns) n = let a = total_more ns n in omega (arith, a)
