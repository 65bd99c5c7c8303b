use Rattle.std.proofs.Common.{◌≡◌, ◌++◌, List, [], ◌∷◌, ap, ◌∙◌, refl, subst, reverse}
use Rattle.px_rows.specs.Tables.{Old, undone}
use Rattle.px_rows.specs.Means.{old_of}
use Rattle.px_locks.specs.declared.want.Grant.{Grant}
use Rattle.px_locks.specs.declared.want.Want.{Want}
use Rattle.px_locks.specs.Locks.{granted, IsJoined}
use Rattle.px_history.specs.declared.event.Event.{Event}
use Rattle.px_history.specs.declared.event.Event.TheVariants.{Op, Die}
use Rattle.px_history.specs.Locking.{core_locks}
use Rattle.px_engine.specs.declared.seat.Seat.{Seat}
use Rattle.px_engine.specs.Seats.{seat_at}
use Rattle.px_engine.proofs.Seated.{seated_op, seated_die, seated_push}
use Rattle.px_engine.proofs.Steps.{die_step, op_step, answer_step, told_at, mine_at}
use Rattle.px_engine.proofs.Telling.{stamp_here, waits_for, must_die, may_do}
use Rattle.px_engine.proofs.engine.Engine.op.Goals as goal

pub returns-in-Waits-clause-told : goal.returns-in-Waits-clause-told
returns-in-Waits-clause-told c = λ job T0 i z.
    let here : c.seat_of-seat.result ≡ seat_at c.args.self.now.seats.items c.args.session = c.seat_of-seat.ensures ∙ ap (λ (xs : List Seat). seat_at xs c.args.session) c.as_slice.ensures.value in (
      refl,
      refl,
      waits_for job (reverse c.args.self.now.journal.events) c.args.session c.args.op c.args.self.now.seats.items c.args.self.now.begun c.args.self.now.retries z.1 i c.seat_of-seat.result here
          c.args.self.now.book.grants (z.0).booked c.want_of.result c.as_slice-2.result.now c.as_slice-2.ensures c.want_of.ensures c.asked.result c.asked.ensures c.in-Waits.holder c.in-Waits.is,
    )

pub returns-in-Dies-clause-told : goal.returns-in-Dies-clause-told
returns-in-Dies-clause-told c = λ job T0 i z.
    let here : c.seat_of-seat.result ≡ seat_at c.args.self.now.seats.items c.args.session = c.seat_of-seat.ensures ∙ ap (λ (xs : List Seat). seat_at xs c.args.session) c.as_slice.ensures.value in (
      c.append.ensures.events,
      must_die job (reverse c.args.self.now.journal.events) c.args.session c.args.op c.args.self.now.seats.items c.args.self.now.begun c.args.self.now.retries z.1 i c.seat_of-seat.result here
          c.args.self.now.book.grants (z.0).booked c.want_of.result c.as_slice-2.result.now c.as_slice-2.ensures c.want_of.ensures c.asked.result c.asked.ensures c.in-Dies.holder c.in-Dies.is,
    )

pub returns-in-Dies-clause-sound : goal.returns-in-Dies-clause-sound
returns-in-Dies-clause-sound c = λ job T0 i z.
    let h = reverse c.args.self.now.journal.events in
    let here : c.seat_of-seat.result ≡ seat_at c.args.self.now.seats.items c.args.session = c.seat_of-seat.ensures ∙ ap (λ (xs : List Seat). seat_at xs c.args.session) c.as_slice.ensures.value in
    let there : c.seat_of-held.result ≡ seat_at c.args.self.now.seats.items c.in-Dies.holder = c.seat_of-held.ensures ∙ ap (λ (xs : List Seat). seat_at xs c.in-Dies.holder) c.as_slice-in-Dies.ensures.value in
    let p = stamp_here job h c.args.session c.args.self.now.seats.items c.args.self.now.begun c.args.self.now.retries z.1 i c.seat_of-seat.result here in
    let m = must_die job h c.args.session c.args.op c.args.self.now.seats.items c.args.self.now.begun c.args.self.now.retries z.1 i c.seat_of-seat.result here
    c.args.self.now.book.grants (z.0).booked c.want_of.result c.as_slice-2.result.now c.as_slice-2.ensures c.want_of.ensures c.asked.result c.asked.ensures c.in-Dies.holder c.in-Dies.is in
    let q = told_at c.args.self.now.book.grants c.args.session c.seat_of-seat.result.stamp c.want_of.result _ _ c.as_slice-2.ensures c.want_of.ensures _ _ c.asked.ensures c.in-Dies.is in
    let mine = mine_at c.args.self.now.undos.items c.from.result c.args.session c.index_mut.result.now c.from.ensures c.requires.listed c.index_mut.ensures.value in (
      die_step job T0 c.args.self.now.tables c.args.self.now.book.grants c.args.self.now.undos.items c.args.self.now.journal.events z.0 c.args.session c.seat_of-seat.result.stamp c.args.op c.in-Dies.holder i p c.requires.listed q _ _ _ _ _
          c.from.ensures (c.undo.ensures.undone ∙ ap (λ (x : List Old). undone x c.args.self.now.tables) mine) c.release.ensures.grants c.undo.ensures.none_left c.append.ensures.events,
      seated_push job _ c.args.self.now.begun c.args.self.now.retries c.args.self.now.journal.events c.append.new.self.events (Die c.args.session c.args.op c.in-Dies.holder) c.append.ensures.events
          (seated_die job c.args.session c.in-Dies.holder c.args.op h c.args.self.now.seats.items c.args.self.now.begun c.args.self.now.retries (z.0).legal m c.requires.seated z.1 c.from-in-Dies.result c.seat_of-seat.result c.seat_of-held.result c.died.result c.from-in-Dies.ensures here there c.died.ensures),
    )

pub returns-in_ok-apply-in-Granted-clause-told : goal.returns-in_ok-apply-in-Granted-clause-told
returns-in_ok-apply-in-Granted-clause-told c = λ job T0 i z.
    let h = reverse c.args.self.now.journal.events in
    let here : c.seat_of-seat.result ≡ seat_at c.args.self.now.seats.items c.args.session = c.seat_of-seat.ensures ∙ ap (λ (xs : List Seat). seat_at xs c.args.session) c.as_slice.ensures.value in
    let q = told_at c.args.self.now.book.grants c.args.session c.seat_of-seat.result.stamp c.want_of.result _ _ c.as_slice-2.ensures c.want_of.ensures _ _ c.asked.ensures c.in-Granted.is in (
      c.append-in-Granted.ensures.events ∙ ap (λ (es : List Event). es ++ Op c.args.session c.args.op ∷ []) c.in_ok-make_room-in-Granted.ensures.events,
      may_do job h c.args.session c.args.op c.args.self.now.seats.items c.args.self.now.begun c.args.self.now.retries z.1 i c.seat_of-seat.result here
          c.args.self.now.book.grants (z.0).booked c.want_of.result c.as_slice-2.result.now c.as_slice-2.ensures c.want_of.ensures c.asked.result c.asked.ensures c.in-Granted.is,
      c.in_ok-answer-in-Granted.ensures ∙ answer_step job T0 c.args.self.now.tables c.args.self.now.book.grants c.args.self.now.undos.items c.args.self.now.journal.events z.0 c.args.session c.seat_of-seat.result.stamp c.args.op q,
    )

pub returns-in_ok-apply-in-Granted-clause-sound : goal.returns-in_ok-apply-in-Granted-clause-sound
returns-in_ok-apply-in-Granted-clause-sound c = λ job T0 i z.
    let h = reverse c.args.self.now.journal.events in
    let here : c.seat_of-seat.result ≡ seat_at c.args.self.now.seats.items c.args.session = c.seat_of-seat.ensures ∙ ap (λ (xs : List Seat). seat_at xs c.args.session) c.as_slice.ensures.value in
    let p = stamp_here job h c.args.session c.args.self.now.seats.items c.args.self.now.begun c.args.self.now.retries z.1 i c.seat_of-seat.result here in
    let q = told_at c.args.self.now.book.grants c.args.session c.seat_of-seat.result.stamp c.want_of.result _ _ c.as_slice-2.ensures c.want_of.ensures _ _ c.asked.ensures c.in-Granted.is in
    let mine = mine_at c.args.self.now.undos.items c.from-in-Granted.result c.args.session c.index_mut-in-Granted.result.now c.from-in-Granted.ensures c.requires.listed c.index_mut-in-Granted.ensures.value in
    let vw : c.as_slice-in-Granted.result.now ≡ core_locks.wants c.args.op = c.as_slice-in-Granted.ensures ∙ c.want_of.ensures in
    let events : c.append-in-Granted.new.self.events ≡ c.args.self.now.journal.events ++ Op c.args.session c.args.op ∷ [] = c.append-in-Granted.ensures.events ∙ ap (λ (es : List Event). es ++ Op c.args.session c.args.op ∷ []) c.in_ok-make_room-in-Granted.ensures.events in (
      op_step job T0 c.args.self.now.tables c.args.self.now.book.grants c.args.self.now.undos.items c.args.self.now.journal.events z.0 c.args.session c.seat_of-seat.result.stamp c.args.op i p c.requires.listed q _ _ _ _ _
          c.from-in-Granted.ensures c.in_ok-apply-in-Granted.ensures.ok
          (subst (λ (y : List Grant × List Want). IsJoined y.0 (granted c.args.session c.seat_of-seat.result.stamp y.1) c.grant.new.self.grants) (λ j. (c.in_ok-room-in-Granted.ensures.grants j, vw j)) c.grant.ensures.grants)
          (c.in_ok-apply-in-Granted.ensures.undo ∙ ap (λ (x : List Old). x ++ old_of c.args.op c.args.self.now.tables) mine) events,
      seated_push job c.args.self.now.seats.items c.args.self.now.begun c.args.self.now.retries c.args.self.now.journal.events c.append-in-Granted.new.self.events (Op c.args.session c.args.op) events
          (seated_op job c.args.session c.args.op h c.args.self.now.seats.items c.args.self.now.begun c.args.self.now.retries z.1),
    )
