use Rattle.std.proofs.Common.{List, sym, subst, reverse}
use Rattle.px_locks.specs.declared.want.Grant.{Grant}
use Rattle.px_history.specs.declared.event.Event.{Event}
use Rattle.px_engine.specs.Sound.{IsKept, IsSeated}
use Rattle.px_engine.proofs.Seated.{seated_none}
use Rattle.px_engine.proofs.Steps.{start_sound}
use Rattle.px_engine.proofs.engine.Engine.new.Goals as goal

pub returns-clause-sound : goal.returns-clause-sound
returns-clause-sound c = λ job q. (
  subst (λ (y : List Grant × List Event). IsKept job c.args.tables c.args.tables y.0 c.loop-made.undos.items y.1) (λ j. (sym c.new-2.ensures j, sym c.new-3.ensures.events j))
      (start_sound job c.args.tables c.loop-made.undos.items c.loop-made.invariant.none),
  subst (λ (events : List Event). IsSeated job c.in_ok-seats.seats.items 0 c.args.retries (reverse events)) (sym c.new-3.ensures.events)
      (seated_none job c.in_ok-seats.seats.items c.args.retries c.in_ok-seats.ensures.new c.requires.retries q),
)
