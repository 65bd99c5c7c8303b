use Rattle.std.proofs.Common.{sym, ◌∙◌}
use Rattle.px_plain.proofs.Undoes.{restored-write}
use Rattle.px_plain.proofs.store.Store.write.Goals as goal

pub returns-in_ok-note-clause-written : goal.returns-in_ok-note-clause-written
returns-in_ok-note-clause-written c = c.note.ensures.heap ∙ c.set.ensures.written

pub returns-in_ok-note-clause-restored : goal.returns-in_ok-note-clause-restored
returns-in_ok-note-clause-restored c =
    restored-write _ _ _ _ _ _ _ c.args.value (sym c.in-Some.ensures.old) c.note.ensures.start (c.note.ensures.heap ∙ c.set.ensures.written) c.in_ok-note.ensures.noted
