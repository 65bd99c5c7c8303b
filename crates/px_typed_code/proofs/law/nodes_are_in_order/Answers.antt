use Rattle.px_typed_code.proofs.Order.{nodes_are_in_order}
use Rattle.px_typed_code.proofs.law.nodes_are_in_order.Goals as goal

pub returns : goal.returns
returns c = nodes_are_in_order
