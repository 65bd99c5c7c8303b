-- What a session tells of its calls is fixed by its plan, its heap and the calls.
use Rattle.std.specs.Prelude.{◌≡◌, List}
use Rattle.px_value.specs.declared.object.Object.{Object}
use Rattle.px_code.specs.declared.plan.Plan.{Plan}
use Rattle.px_code.specs.declared.reply.Done.{Done}
use Rattle.px_code.specs.Stale.{Event}
use Rattle.px_session.specs.Serving.{Call, Calling, AreServed}

-- Two sessions that serve the same calls tell the same of them.
abbrev pub CallsAreToldOnce : Type 0
CallsAreToldOnce = (calling : Calling) (plan : Plan) (heap : List Object) (events : List Event) (calls : List Call) (dones that_dones : List Done) → AreServed calling plan heap events calls dones → AreServed calling plan heap events calls that_dones → dones ≡ that_dones
