use Rattle.std.proofs.Common.{◌≡◌, ◌+◌, List, ap, sym, ◌∙◌, reverse}
use Rattle.px_engine.specs.declared.seat.Seat.{Seat}
use Rattle.px_engine.specs.Seats.{seat_at, begun_seat}
use Rattle.px_engine.proofs.Seated.{seated_begin, again_count, first_count}
use Rattle.px_engine.proofs.engine.Engine.sit.Goals as goal

pub returns-then-seat-call-clause-seated : goal.returns-then-seat-call-clause-seated
returns-then-seat-call-clause-seated c = λ job a l m z.
    let here : c.seat_of-seat.result ≡ seat_at c.args.self.now.seats.items c.args.session = c.seat_of-seat.ensures ∙ ap (λ (xs : List Seat). seat_at xs c.args.session) c.as_slice.ensures.value in
    seated_begin job c.args.session c.args.call a (reverse c.args.self.now.journal.events) c.args.self.now.seats.items c.args.self.now.begun c.args.self.now.retries l m c.requires.seated z c.from.result (c.args.self.now.begun + 1) c.begun.result c.from.ensures
    (c.begun.ensures ∙ ap (begun_seat c.args.call (c.args.self.now.begun + 1)) here)
    (first_count job c.args.session c.args.call a (reverse c.args.self.now.journal.events) c.args.self.now.seats.items c.args.self.now.begun c.args.self.now.retries z m (λ q. c.if-seat-call.true (ap (λ (t : Seat). t.call) here ∙ q)))

pub returns-else-seat-call-clause-seated : goal.returns-else-seat-call-clause-seated
returns-else-seat-call-clause-seated c = λ job a l m z.
    let here : c.seat_of-seat.result ≡ seat_at c.args.self.now.seats.items c.args.session = c.seat_of-seat.ensures ∙ ap (λ (xs : List Seat). seat_at xs c.args.session) c.as_slice.ensures.value in
    seated_begin job c.args.session c.args.call a (reverse c.args.self.now.journal.events) c.args.self.now.seats.items c.args.self.now.begun c.args.self.now.retries l m c.requires.seated z c.from.result c.args.self.now.begun c.begun.result c.from.ensures
    (c.begun.ensures ∙ ap (begun_seat c.args.call (c.args.self.now.begun + 1)) here)
    (again_count job c.args.session c.args.call a (reverse c.args.self.now.journal.events) c.args.self.now.seats.items c.args.self.now.begun c.args.self.now.retries z m (sym (ap (λ (t : Seat). t.call) here) ∙ c.if-seat-call.false))
