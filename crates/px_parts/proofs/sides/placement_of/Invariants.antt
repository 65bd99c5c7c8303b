use Rattle.std.proofs.Common.{◌≡◌, ◌++◌, map, drop}
use Rattle.px_parts.specs.Sides.{side_of}
use Rattle.px_parts.proofs.sides.placement_of.Given as goal

abbrev pub invariant-loop-side : goal.invariant-loop-side
invariant-loop-side l = l.sides ++ map side_of (drop l.side-index l.side-items) ≡ map side_of l.side-items
