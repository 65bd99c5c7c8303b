-- Plans that two ends can serve.
use Rattle.px_code.specs.declared.plan.Plan.{Plan}
use Rattle.px_code.specs.Cut.{AreBlocks}
use Rattle.px_code.specs.Sound.{IsKeep, IsSound}
use Rattle.px_code.specs.WellFormed.{IsWellFormed}

-- blocks that are cut from code whose slots and fields are there
pub record IsServable (plan : Plan) : Type 0 where
  pub blocks : AreBlocks plan.code plan.placement.sides plan.blocks
  pub formed : IsWellFormed plan.code

-- Such a plan may stand in the place of its own code, if it lists what each side keeps.
abbrev pub CompiledIsSound : Type 0
CompiledIsSound = (plan : Plan) → IsServable plan → IsKeep plan.code plan.placement.sides plan.keep → IsSound plan plan.code
