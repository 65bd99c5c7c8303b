-- A session between two calls, and one call of it.
use Rattle.std.specs.Prelude.{◌≡◌, List, [], Some}
use Rattle.px_value.specs.declared.object.Object.{Object}
use Rattle.px_code.specs.declared.side.Side.TheVariants.{App}
use Rattle.px_code.specs.declared.plan.Plan.{Plan}
use Rattle.px_code.specs.declared.reply.Done.{Done}
use Rattle.px_code.specs.Fits.{Fits}
use Rattle.px_code.specs.Stale.{Event}
use Rattle.px_half.specs.End.{plan_at}
use Rattle.px_pair.specs.declared.stage.Stage.TheVariants.{Idle}
use Rattle.px_pair.specs.Fresh.{IsFresh}
use Rattle.px_pair.specs.Sessions.{Rest}
use Rattle.px_pair.specs.Servable.{IsServable}
use Rattle.px_pair.specs.Callable.{IsCallable}
use Rattle.px_pair.specs.Pair.{State, IsAtRest}
use Rattle.px_session.specs.Serving.{Call, IsServed, by_code}

-- both ends rest, and have one heap; no copy that an end keeps is old after these events
pub record IsResting (plan : Plan) (one : List Object) (events : List Event) (p : State) : Type 0 where
  pub servable : IsServable plan
  pub stage : p.stage ≡ Idle
  pub app_plan : plan_at p.ends.app ≡ Some plan
  pub db_plan : plan_at p.ends.db ≡ Some plan
  pub app : IsAtRest p.ends.app
  pub db : IsAtRest p.ends.db
  pub rest : Rest plan p.ends.app.closed p.ends.db.closed one
  pub fits : Fits plan.code one
  pub fresh : IsFresh plan App one [] events

-- the call is served, and both ends rest with the heap that it leaves
pub record HasServed (plan : Plan) (one : List Object) (before : List Event) (c : Call) (done : Done) (new : State) : Type 0 where
  pub after : List Event
  pub served : IsServed plan one c (by_code plan.code one c).reply before done after
  pub resting : IsResting plan (by_code plan.code one c).heap after new

abbrev pub Serves : Call → State → State → Done → Type 0
Serves c old new done = (plan : Plan) (one : List Object) (events : List Event) → IsResting plan one events old → IsCallable plan.code c.method c.args → HasServed plan one events c done new
