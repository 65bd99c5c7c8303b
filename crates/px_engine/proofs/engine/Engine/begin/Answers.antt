use Rattle.std.proofs.Common.{◌≡◌, ℕ, List, reverse, ap, sym, subst, ◌∙◌, None}
use Rattle.px_history.specs.Legal.{MayBegin}
use Rattle.px_engine.specs.declared.seat.Seat.{Seat}
use Rattle.px_engine.specs.Seats.{seat_at, held_by}
use Rattle.px_engine.proofs.Seated.{attempt_is, free_now}
use Rattle.px_engine.proofs.engine.Engine.begin.Goals as goal

pub returns-in_ok-attempt-in-None-clause-sound : goal.returns-in_ok-attempt-in-None-clause-sound
returns-in_ok-attempt-in-None-clause-sound c = λ job T0 next z.
    let h = reverse c.args.self.now.journal.events in
    let here : c.seat_of-seat.result ≡ seat_at c.args.self.now.seats.items c.args.session = c.seat_of-seat.ensures ∙ ap (λ (xs : List Seat). seat_at xs c.args.session) c.as_slice.ensures.value in
    let free : held_by c.args.self.now.seats.items c.args.self.now.retries c.seat_of-seat.result c.args.call ≡ None = ap (λ (xs : List Seat). held_by xs c.args.self.now.retries c.seat_of-seat.result c.args.call) (sym c.as_slice-2.ensures.value) ∙ sym c.held_by.ensures ∙ c.in-None.is in
    let is = attempt_is job h c.args.session c.args.call c.args.self.now.seats.items c.args.self.now.begun c.args.self.now.retries z.1 next.due c.seat_of-seat.result c.next_attempt.result here c.next_attempt.ensures in
    let may = free_now job h c.args.session c.args.call c.args.self.now.seats.items c.args.self.now.begun c.args.self.now.retries z.1 next c.seat_of-seat.result here free in
    c.attempt.ensures.sound job T0 (subst (λ (a : ℕ). MayBegin job h c.args.session c.args.call a) (sym is) may) z
