use Rattle.std.proofs.Common.{◌≡◌, map, length}
use Rattle.px_wire.specs.Order.{are_in_order}
use Rattle.px_wire.proofs.order.are_in_order.Given as goal

abbrev pub invariant-loop-rest : goal.invariant-loop-rest
invariant-loop-rest g l = are_in_order (map g.P.Placed.place_of l.rest) ≡ are_in_order (map g.P.Placed.place_of l.items)

abbrev pub decreases-loop-rest : goal.decreases-loop-rest
decreases-loop-rest g l = length l.rest
