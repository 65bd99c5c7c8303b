use Rattle.px_flow_points.proofs.Typing.{typed_numbers_exist}
use Rattle.px_flow_points.proofs.law.typed_numbers_exist.Goals as goal

pub returns : goal.returns
returns c = typed_numbers_exist
