use Rattle.std.proofs.Common.{List, ap, ◌∙◌, refl, reverse}
use Rattle.px_rows.specs.Tables.{Old, undone}
use Rattle.px_history.specs.declared.event.Event.TheVariants.{Drop}
use Rattle.px_engine.proofs.Seated.{seat_here, seated_next, seated_push}
use Rattle.px_engine.specs.Seats.{dropped_seat}
use Rattle.px_engine.proofs.Steps.{gone_step, mine_at}
use Rattle.px_engine.proofs.engine.Engine.drop_call.Goals as goal

pub returns-clause-sound : goal.returns-clause-sound
returns-clause-sound c = λ job T0 i z.
    let mine = mine_at c.args.self.now.undos.items c.from.result c.args.session c.index_mut.result.now c.from.ensures c.requires.listed c.index_mut.ensures.value in (
      gone_step job T0 c.args.self.now.tables c.args.self.now.book.grants c.args.self.now.undos.items c.args.self.now.journal.events z.0 (Drop c.args.session) i refl refl c.requires.listed _ _ _ _ _
          c.from.ensures (c.undo.ensures.undone ∙ ap (λ (x : List Old). undone x c.args.self.now.tables) mine) c.release.ensures.grants c.undo.ensures.none_left c.append.ensures.events,
      seated_push job _ c.args.self.now.begun c.args.self.now.retries c.args.self.now.journal.events c.append.new.self.events (Drop c.args.session) c.append.ensures.events
          (seated_next job (Drop c.args.session) (reverse c.args.self.now.journal.events) c.args.self.now.seats.items c.args.self.now.begun c.args.self.now.retries (z.0).legal i refl c.requires.seated z.1 c.from-place.result c.dropped.result c.from-place.ensures
          (c.dropped.ensures ∙ ap dropped_seat (seat_here c.args.self.now.seats.items c.from-place.result c.args.session c.index.result.now c.from-place.ensures c.requires.seated c.index.ensures))),
    )
