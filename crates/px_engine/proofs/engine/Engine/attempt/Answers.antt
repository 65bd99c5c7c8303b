use Rattle.std.proofs.Common.{◌≡◌, ◌++◌, List, [], ◌∷◌, ap, sym, subst, ◌∙◌, reverse}
use Rattle.px_rows.specs.Tables.{Tables, Old}
use Rattle.px_locks.specs.declared.want.Grant.{Grant}
use Rattle.px_history.specs.declared.event.Event.{Event}
use Rattle.px_history.specs.declared.event.Event.TheVariants.{Begin}
use Rattle.px_history.specs.Legal.{MayBegin, IsLegal}
use Rattle.px_history.specs.Locking.{core_locks}
use Rattle.px_engine.specs.Events.{Events}
use Rattle.px_engine.specs.Sound.{IsKept, IsSeated}
use Rattle.px_engine.proofs.Seated.{seated_push}
use Rattle.px_engine.proofs.Steps.{begin_step}
use Rattle.px_engine.proofs.engine.Engine.attempt.Goals as goal

pub returns-clause-sound : goal.returns-clause-sound
returns-clause-sound c = λ job T0 m z.
    let old = c.args.self.now.journal.events in
    let e = Begin c.args.session c.args.call c.args.attempt in
    let same : c.make_room.new.self.events ≡ old = c.in_ok-make_room.ensures.events in
    let events : c.append.new.self.events ≡ old ++ e ∷ [] = c.append.ensures.events ∙ ap (λ (j : Events). j.events ++ e ∷ []) c.sit.ensures.journal ∙ ap (λ (es : List Event). es ++ e ∷ []) same in
    let kept = begin_step job T0 c.args.self.now.tables c.args.self.now.book.grants c.args.self.now.undos.items old z.0 c.args.session c.args.call c.args.attempt m c.append.new.self.events events in
    let seated = c.sit.ensures.seated job c.args.attempt
    (subst (λ (es : List Event). IsLegal job core_locks (reverse es)) (sym same) (z.0).legal)
    (subst (λ (es : List Event). MayBegin job (reverse es) c.args.session c.args.call c.args.attempt) (sym same) m)
    (subst (λ (es : List Event). IsSeated job c.args.self.now.seats.items c.args.self.now.begun c.args.self.now.retries (reverse es)) (sym same) z.1) in (
      subst (λ (y : Tables × List Grant × List (List Old)). IsKept job T0 y.0 y.1 y.2 c.append.new.self.events)
          (λ j. (sym c.sit.ensures.tables j, (sym c.sit.ensures.book j).grants, (sym c.sit.ensures.undos j).items)) kept,
      seated_push job c.sit.new.self.seats.items c.sit.new.self.begun c.sit.new.self.retries old c.append.new.self.events e events
          (subst (λ (es : List Event). IsSeated job c.sit.new.self.seats.items c.sit.new.self.begun c.sit.new.self.retries (e ∷ reverse es)) same seated),
    )
