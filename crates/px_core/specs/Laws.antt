-- What holds of cores, and of the jobs that they are made for.
use Rattle.std.specs.Prelude.{◌≡◌, ℕ, ◌<◌, List, [], ◌∷◌, ◌++◌}
use Rattle.px_value.specs.declared.statement.TableOp.{TableOp}
use Rattle.px_value.specs.declared.schema.Table.{Table}
use Rattle.px_facts.specs.declared.checked.Entry.{Entry}
use Rattle.px_normal.specs.declared.code.Code.{Code}
use Rattle.px_job.specs.declared.job.Job.{Job as JobOfFile}
use Rattle.px_job.specs.Fitting.{Fits}
use Rattle.px_history.specs.declared.event.Event.{Event}
use Rattle.px_history.specs.Moves.{IsDue}
use Rattle.px_engine.specs.declared.engine.Begun.{Begun}
use Rattle.px_engine.specs.declared.engine.Begun.TheVariants.{Began, Waits as Holds}
use Rattle.px_engine.specs.declared.engine.Opped.{Opped}
use Rattle.px_engine.specs.declared.engine.Opped.TheVariants.{Did, Waits, Died}
use Rattle.px_engine.specs.Told.{IsNextCall, IsBegun, IsOpped}
use Rattle.px_core.specs.Cored.{Cored, IsServable, meaning_by, calls_in, history_of, AsksNext, IsFaithfulCore}
use Rattle.px_core.specs.Next.{Counts, IsNext, IsHeld, IsSingle}

abbrev pub FittingJobsAreServable : Type 0
FittingJobsAreServable = (entries : List Entry) (tables : List Table) (code : Code) (job : JobOfFile) → Fits entries tables code job → IsServable job

-- in the history of a core a session has one next event at most
abbrev pub NextIsSingle : Type 0
NextIsSingle = (c : Cored) (counts : Counts) → IsFaithfulCore c → (s : ℕ) → IsSingle (meaning_by c.program c.job) (calls_in c) c.first counts (history_of c) s

-- an operation adds the session's next event, or the session is held
abbrev pub IsNextOrHeld : Cored → Counts → ℕ → List Event → Opped → Type 0
IsNextOrHeld c counts s new (Did answer) = (e : Event) × (new ≡ c.events ++ e ∷ []) × IsNext (meaning_by c.program c.job) (calls_in c) c.first counts (history_of c) s e
IsNextOrHeld c counts s new (Waits x back) = (new ≡ c.events) × IsHeld (meaning_by c.program c.job) (calls_in c) c.first (history_of c) s x
IsNextOrHeld c counts s new (Died x) = (e : Event) × (new ≡ c.events ++ e ∷ []) × IsNext (meaning_by c.program c.job) (calls_in c) c.first counts (history_of c) s e

abbrev pub OperationsAddNext : Type 0
OperationsAddNext = (c : Cored) (counts : Counts) (s : ℕ) (o : TableOp) (new : List Event) (told : Opped) → AsksNext c s o → IsOpped c.first s o told c.events new → IsNextOrHeld c counts s new told

-- and so does a begin
abbrev pub BeginsNextOrHeld : Cored → Counts → ℕ → List Event → Begun → Type 0
BeginsNextOrHeld c counts s new Began = (e : Event) × (new ≡ c.events ++ e ∷ []) × IsNext (meaning_by c.program c.job) (calls_in c) c.first counts (history_of c) s e
BeginsNextOrHeld c counts s new (Holds x) = (new ≡ c.events) × IsHeld (meaning_by c.program c.job) (calls_in c) c.first (history_of c) s x

abbrev pub BeginsAddNext : Type 0
BeginsAddNext = (c : Cored) (counts : Counts) (s call : ℕ) (new : List Event) (told : Begun) → IsNextCall (calls_in c) (history_of c) s call → IsBegun (calls_in c) told s call c.events new → BeginsNextOrHeld c counts s new told

-- while a call isn't over some session has a next event
abbrev pub SomeoneIsNext : Type 0
SomeoneIsNext = (c : Cored) (counts : ℕ → Counts) → ((s : ℕ) → (counts s).part < (calls_in c).parts) → IsFaithfulCore c → (s call : ℕ) → IsDue (calls_in c) (history_of c) s call
    → (y : ℕ) × (e : Event) × IsNext (meaning_by c.program c.job) (calls_in c) c.first (counts y) (history_of c) y e
