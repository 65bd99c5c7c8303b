-- Legal histories.
use Rattle.std.specs.Prelude.{◌≡◌, ℕ, ◌+◌, ◌<◌, ◌≤◌, true, false, List, [], ◌∷◌, Option, Some, None}
use Rattle.px_value.specs.declared.statement.TableOp.{TableOp}
use Rattle.px_history.specs.declared.event.Event.{Event}
use Rattle.px_history.specs.declared.event.Event.TheVariants.{Begin, Op, Die, End, Drop}
use Rattle.px_code.specs.declared.reply.Done.{Done}
use Rattle.px_history.specs.Attempts.{is_active, stamp_of, deaths, is_over, Killer, killer_of}
use Rattle.px_history.specs.Locking.{LockForm, is_in_conflict, IsFree}

-- what of a job the history is held to: the number of calls of each session, the retries and the parts
pub record Calls : Type 0 where
  pub calls : ℕ → ℕ
  pub retries : ℕ
  pub parts : ℕ

abbrev pub IsOverCall : ℕ → ℕ → Option ℕ → List Event → Type 0
IsOverCall retries x None h = Unit {0}
IsOverCall retries x (Some c) h = is_over retries x c h ≡ true

-- the call that the killer was in is over
abbrev pub IsOverFor : ℕ → Option Killer → List Event → Type 0
IsOverFor retries None h = Unit {0}
IsOverFor retries (Some k) h = IsOverCall retries k.session k.call h

pub record MayBegin (job : Calls) (h : List Event) (s c a : ℕ) : Type 0 where
  pub idle : is_active s h ≡ false
  pub listed : (1 ≤ c) × (c ≤ job.calls s)
  pub earlier : (d : ℕ) → 1 ≤ d → d < c → is_over job.retries s d h ≡ true
  pub open_yet : is_over job.retries s c h ≡ false
  pub counted : a ≡ deaths s c h + 1
  pub waited : 1 < a → IsOverFor job.retries (killer_of s c h) h

pub record MayDo (form : LockForm) (h : List Event) (s : ℕ) (o : TableOp) : Type 0 where
  pub active : is_active s h ≡ true
  pub free : IsFree form h s o

-- it dies of an older holder, and names the oldest
pub record MustDie (form : LockForm) (h : List Event) (s : ℕ) (o : TableOp) (x : ℕ) : Type 0 where
  pub active : is_active s h ≡ true
  pub holds : is_in_conflict form h s o x ≡ true
  pub least : (y : ℕ) → is_in_conflict form h s o y ≡ true → stamp_of x h ≤ stamp_of y h
  pub older : stamp_of x h < stamp_of s h

pub record MayEnd (job : Calls) (h : List Event) (s : ℕ) (done : Done) : Type 0 where
  pub active : is_active s h ≡ true
  pub part : done.part < job.parts

-- an event may follow what came before it
abbrev pub MayFollow : Calls → LockForm → List Event → Event → Type 0
MayFollow job form h (Begin s c a) = MayBegin job h s c a
MayFollow job form h (Op s o) = MayDo form h s o
MayFollow job form h (Die s o x) = MustDie form h s o x
MayFollow job form h (End s done) = MayEnd job h s done
MayFollow job form h (Drop s) = is_active s h ≡ true

abbrev pub IsLegal : Calls → LockForm → List Event → Type 0
IsLegal job form [] = Unit {0}
IsLegal job form (e ∷ h) = MayFollow job form h e × IsLegal job form h
