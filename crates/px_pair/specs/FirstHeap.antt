-- The heap with which a session begins.
use Rattle.std.specs.Prelude.{Some}
use Rattle.px_code.specs.declared.plan.Plan.{Plan}
use Rattle.px_code.specs.Fits.{Fits}
use Rattle.px_half.specs.End.{first_objects}
use Rattle.px_half.specs.Messages.{IsTellableHeap}

-- it fits the code, and can be told
pub record IsGoodStart (plan : Plan) : Type 0 where
  pub fits : Fits plan.code (first_objects (Some plan))
  pub tellable : IsTellableHeap (first_objects (Some plan))

abbrev pub FirstHeapFits : Type 0
FirstHeapFits = (plan : Plan) → IsGoodStart plan
