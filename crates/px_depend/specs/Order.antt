-- The order of edges.
use Rattle.std.specs.Prelude.{ℕ, List}
use Rattle.std.specs.declared.cmp.Ordering.{Ordering}
use Rattle.std.specs.Ordering.{nat_cmp, ordering_then}
use Rattle.std.specs.List.Sorted.{IsStrictlySortedBy}
use Rattle.px_constraints.specs.System.{At}
use Rattle.px_normal.specs.declared.code.Code.{Code}
use Rattle.px_flow_points.specs.Laws.{Both}
use Rattle.px_flow_points.specs.ByNode.{part_cmp}
use Rattle.px_depend.specs.declared.edge.End.{End}
use Rattle.px_depend.specs.declared.edge.End.TheVariants as end
use Rattle.px_depend.specs.declared.edge.Tie.{Tie}
use Rattle.px_depend.specs.declared.edge.Tie.TheVariants as tie
use Rattle.px_depend.specs.declared.edge.Edge.{Edge}
use Rattle.px_depend.specs.Depend.{IsEdge}

-- kinds of ends, in order
abbrev pub end_rank : End → ℕ
end_rank end.App = 0
end_rank end.Db = 1
end_rank (end.Node n) = 2

abbrev pub end_cmp : End → End → Ordering
end_cmp (end.Node a) (end.Node b) = nat_cmp a b
end_cmp a b = nat_cmp (end_rank a) (end_rank b)

-- kinds of ties, in order
abbrev pub tie_rank : Tie → ℕ
tie_rank tie.Held = 0
tie_rank tie.Enters = 1
tie_rank (tie.Slot x) = 2
tie_rank (tie.Argument x) = 3
tie_rank tie.Result = 4
tie_rank (tie.Part x) = 5
tie_rank tie.Home = 6

abbrev pub tie_cmp : Tie → Tie → Ordering
tie_cmp (tie.Slot a) (tie.Slot b) = nat_cmp a b
tie_cmp (tie.Argument a) (tie.Argument b) = nat_cmp a b
tie_cmp (tie.Part a) (tie.Part b) = part_cmp a b
tie_cmp a b = nat_cmp (tie_rank a) (tie_rank b)

-- by where they begin, where they lead, what passes, and its size
abbrev pub edge_cmp : Edge → Edge → Ordering
edge_cmp a b = ordering_then (end_cmp a.from b.from) (ordering_then (nat_cmp a.to b.to) (ordering_then (tie_cmp a.tie b.tie) (nat_cmp a.size b.size)))

-- exactly the edges of code, each once, in order
pub record AreEdges (code : Code) (edges : List Edge) : Type 0 where
  pub exact : (e : Edge) → Both (At edges e) (IsEdge code e)
  pub rise : IsStrictlySortedBy edge_cmp edges
