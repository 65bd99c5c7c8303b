-- What sides keep shows in nothing that a session tells.
use Rattle.std.specs.Prelude.{◌≡◌, List}
use Rattle.px_value.specs.declared.object.Object.{Object}
use Rattle.px_code.specs.declared.plan.Plan.{Plan}
use Rattle.px_code.specs.declared.reply.Done.{Done}
use Rattle.px_code.specs.Stale.{Event}
use Rattle.px_session.specs.Serving.{Call, Calling, AreServed}

-- With the same code, placement and blocks the same is told of the same calls.
abbrev pub KeepIsNotTold : Type 0
KeepIsNotTold = (calling : Calling) (plan that_plan : Plan) → plan.code ≡ that_plan.code → plan.placement ≡ that_plan.placement → plan.blocks ≡ that_plan.blocks
    → (heap : List Object) (events : List Event) (calls : List Call) (dones : List Done) → AreServed calling plan heap events calls dones → AreServed calling that_plan heap events calls dones
