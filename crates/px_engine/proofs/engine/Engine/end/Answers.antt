use Rattle.std.proofs.Common.{◌≡◌, ◌++◌, List, [], ◌∷◌, ap, ◌∙◌, refl, sym, subst, not, reverse, slice_index_or, slice_set}
use Rattle.px_rows.specs.Tables.{Old, undone}
use Rattle.px_locks.specs.Locks.{without}
use Rattle.px_history.specs.declared.event.Event.TheVariants.{End}
use Rattle.px_engine.specs.declared.engine.Engine.{Engine}
use Rattle.px_engine.specs.Seats.{ended_seat}
use Rattle.px_engine.specs.Sound.{IsSeated}
use Rattle.px_engine.proofs.Seated.{seat_here, seated_next, seated_push}
use Rattle.px_engine.proofs.Steps.{gone_step, commit_step, mine_at, moved}
use Rattle.px_engine.proofs.engine.Engine.end.Goals as goal
use Rattle.px_engine.proofs.engine.Engine.end.Goals.{then-is_throw, else-is_throw}

pub returns-clause-sound : goal.returns-clause-sound
returns-clause-sound c = λ job T0 m z. elim c.if-is_throw.branch [
  | then-is_throw w ↦
      let s = w.self-is in
      let events : c.append.new.self.events ≡ c.args.self.now.journal.events ++ End c.args.session c.args.done ∷ [] = c.append.ensures.events ∙ (λ j. (s j).journal.events ++ End c.args.session c.args.done ∷ []) in
      let mine = mine_at c.args.self.now.undos.items w.from.result c.args.session w.index_mut.result.now w.from.ensures c.requires.listed w.index_mut.ensures.value in (
        moved job T0 _ _ _ _
            (gone_step job T0 c.args.self.now.tables c.args.self.now.book.grants c.args.self.now.undos.items c.args.self.now.journal.events z.0 (End c.args.session c.args.done) m (ap not (sym c.is_throw.ensures ∙ w.if-is_throw.true)) refl c.requires.listed
            w.undo.new.self c.release.new.self.grants w.from.result w.undo.new.undo c.append.new.self.events
            w.from.ensures (w.undo.ensures.undone ∙ ap (λ (x : List Old). undone x c.args.self.now.tables) mine) (c.release.ensures.grants ∙ (λ j. without c.args.session (s j).book.grants)) w.undo.ensures.none_left events)
            _ _ (λ j. (s j).tables) (λ j. (s j).undos.items),
        subst (λ (e : Engine). IsSeated job (slice_set e.seats.items c.from-place.result c.closed.result) e.begun e.retries (reverse c.append.new.self.events)) (sym s)
            (seated_push job _ c.args.self.now.begun c.args.self.now.retries c.args.self.now.journal.events c.append.new.self.events (End c.args.session c.args.done) events
            (seated_next job (End c.args.session c.args.done) (reverse c.args.self.now.journal.events) c.args.self.now.seats.items c.args.self.now.begun c.args.self.now.retries (z.0).legal m refl c.requires.seated z.1 c.from-place.result c.closed.result c.from-place.ensures
            (c.closed.ensures ∙ ap ended_seat (seat_here c.args.self.now.seats.items c.from-place.result c.args.session c.index.result.now c.from-place.ensures c.requires.seated (c.index.ensures ∙ (λ j. slice_index_or (s j).seats.items c.from-place.result c.index.result.now)))))),
      )
  | else-is_throw w ↦
      let s = w.self-is in
      let events : c.append.new.self.events ≡ c.args.self.now.journal.events ++ End c.args.session c.args.done ∷ [] = c.append.ensures.events ∙ (λ j. (s j).journal.events ++ End c.args.session c.args.done ∷ []) in (
        moved job T0 _ _ _ _
            (commit_step job T0 c.args.self.now.tables c.args.self.now.book.grants c.args.self.now.undos.items c.args.self.now.journal.events z.0 c.args.session c.args.done m (ap not (sym c.is_throw.ensures ∙ w.if-is_throw.false)) c.requires.listed
            c.release.new.self.grants w.from-else-is_throw.result w.clear.new.self c.append.new.self.events
            w.from-else-is_throw.ensures (c.release.ensures.grants ∙ (λ j. without c.args.session (s j).book.grants)) w.clear.ensures events)
            _ _ (λ j. (s j).tables) (λ j. (s j).undos.items),
        subst (λ (e : Engine). IsSeated job (slice_set e.seats.items c.from-place.result c.closed.result) e.begun e.retries (reverse c.append.new.self.events)) (sym s)
            (seated_push job _ c.args.self.now.begun c.args.self.now.retries c.args.self.now.journal.events c.append.new.self.events (End c.args.session c.args.done) events
            (seated_next job (End c.args.session c.args.done) (reverse c.args.self.now.journal.events) c.args.self.now.seats.items c.args.self.now.begun c.args.self.now.retries (z.0).legal m refl c.requires.seated z.1 c.from-place.result c.closed.result c.from-place.ensures
            (c.closed.ensures ∙ ap ended_seat (seat_here c.args.self.now.seats.items c.from-place.result c.args.session c.index.result.now c.from-place.ensures c.requires.seated (c.index.ensures ∙ (λ j. slice_index_or (s j).seats.items c.from-place.result c.index.result.now)))))),
      )
]
