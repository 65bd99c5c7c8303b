-- What a core adds is its session's next event.
use Rattle.std.proofs.Common.{ℕ, ◌+◌, ◌<◌, List, refl}
use Rattle.px_code.specs.declared.reply.Done.{Done}
use Rattle.px_rows.specs.Tables.{Tables}
use Rattle.px_history.specs.declared.event.Event.{Event}
use Rattle.px_history.specs.declared.event.Event.TheVariants.{Begin, Op, Die, End}
use Rattle.px_history.specs.Attempts.{deaths}
use Rattle.px_history.specs.Legal.{Calls}
use Rattle.px_history.specs.Locking.{core_locks}
use Rattle.px_history.specs.Moves.{CanMove, begins_call, does as can_do, dies as can_die, ends as can_end}
use Rattle.px_history.specs.Serial.{Meaning, prints_of}
use Rattle.px_mean.specs.Program.{source_from}
use Rattle.px_faithful.specs.Jobs.{Heap}
use Rattle.px_faithful.proofs.Whole.{someone_goes_on}
use Rattle.px_engine.specs.declared.engine.Begun.TheVariants.{Began, Waits as Holds}
use Rattle.px_engine.specs.declared.engine.Opped.TheVariants.{Did, Waits, Died}
use Rattle.px_core.specs.Cored.{told_job, meaning_by, calls_in, history_of}
use Rattle.px_core.specs.Next.{Counts, IsNext, begins, does, dies, ends, by_lock, by_killer}
use Rattle.px_core.specs.Laws.{NextIsSingle, OperationsAddNext, BeginsAddNext, SomeoneIsNext}
use Rattle.px_core.proofs.Singles.{single}

pub next_is_single : NextIsSingle
next_is_single c counts f s = single Heap (meaning_by c.program c.job) (calls_in c) c.first (history_of c) f.legal counts s

pub operations_add_next : OperationsAddNext
operations_add_next c counts s o new (Did answer) asks told = (Op s o, told.0, does o asks.asked told.1)
operations_add_next c counts s o new (Waits x back) asks told = (told.0, by_lock o asks.active asks.asked told.2)
operations_add_next c counts s o new (Died x) asks told = (Die s o x, told.0, dies o x asks.asked told.1)

pub begins_add_next : BeginsAddNext
begins_add_next c counts s call new Began next told = (Begin s call (deaths s call (history_of c) + 1), told.0, begins call (deaths s call (history_of c) + 1) told.1)
begins_add_next c counts s call new (Holds x) next told = (told.0, by_killer call next.idle next.due told.1)

-- who can move has a next event
can_next : (H : Type 0) (M : Meaning H) (job : Calls) (T0 : Tables) (counts : Counts) (h : List Event) (s : ℕ) → counts.part < job.parts → CanMove M job core_locks T0 h s → (e : Event) × IsNext M job T0 counts h s e
can_next H M job T0 counts h s l (begins_call c a m) = (Begin s c a, begins c a m)
can_next H M job T0 counts h s l (can_do o q m) = (Op s o, does o q m)
can_next H M job T0 counts h s l (can_die o x q m) = (Die s o x, dies o x q m)
can_next H M job T0 counts h s l (can_end reply prints heap q i) =
    let done : Done = record { reply = reply; prints = prints_of reply prints; part = counts.part; avg = counts.avg; moves = counts.moves; bytes = counts.bytes; rehome = counts.rehome } in
    (End s done, ends done (record { active = i; part = l }) (record { prints = prints; heap = heap; ended = q; shown = refl }) refl)

pub someone_is_next : SomeoneIsNext
someone_is_next c counts l f s call due =
    let w = someone_goes_on (source_from c.program) (told_job c.job) c.first (history_of c) (record { legal = f.legal; own = f.own }) s call due in
    let n = can_next Heap (meaning_by c.program c.job) (calls_in c) c.first (counts w.0) (history_of c) w.0 (l w.0) w.1 in
    (w.0, n.0, n.1)
