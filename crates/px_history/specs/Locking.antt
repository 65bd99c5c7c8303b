-- What an operation wants to lock, and whom it conflicts with.
use Rattle.std.specs.Prelude.{◌≡◌, ℕ, Bool, false, not, ◌==◌, ◌&&◌, ◌||◌, List, [], ◌∷◌, ◌++◌, Some, None, if◌then◌else◌}
use Rattle.px_value.specs.declared.statement.TableOp.{TableOp}
use Rattle.px_rows.specs.Means.{table_of, by_key, key_of}
use Rattle.px_locks.specs.declared.mode.Mode.{Mode}
use Rattle.px_locks.specs.declared.mode.Mode.TheVariants.{IntentShared, IntentExclusive, Shared, Exclusive}
use Rattle.px_locks.specs.declared.want.Want.{Want}
use Rattle.px_locks.specs.Locks.{same_item, goes_with}
use Rattle.px_history.specs.declared.event.Event.{Event}
use Rattle.px_history.specs.Attempts.{ops_of}
use Rattle.px_history.specs.Places.{writes}

-- a form of locks: what each operation wants
pub record LockForm : Type 0 where
  pub wants : TableOp → List Want

abbrev pub on_table : ℕ → Mode → Want
on_table table mode = record { item = record { table = table; key = None }; mode = mode }

-- ---- locks on tables

abbrev pub table_wants : TableOp → List Want
table_wants o = on_table (table_of o.statement) (if writes o.statement then Exclusive else Shared) ∷ []

abbrev pub table_locks : LockForm
table_locks = record { wants = table_wants }

-- ---- locks on keys

abbrev pub on_key : TableOp → Mode → Want
on_key o mode = record { item = record { table = table_of o.statement; key = Some (key_of o.statement o.params) }; mode = mode }

abbrev pub key_wants : TableOp → List Want
key_wants o =
    if writes o.statement then on_table (table_of o.statement) IntentExclusive ∷ on_key o Exclusive ∷ []
    else (if by_key o.statement then on_table (table_of o.statement) IntentShared ∷ on_key o Shared ∷ [] else on_table (table_of o.statement) Shared ∷ [])

abbrev pub key_locks : LockForm
key_locks = record { wants = key_wants }

-- ---- conflicts

-- a want that is held doesn't go with one that is asked for
abbrev pub clash : Want → Want → Bool
clash held wanted = same_item held.item wanted.item && not (goes_with held.mode wanted.mode)

abbrev pub clashes_any : Want → List Want → Bool
clashes_any held [] = false
clashes_any held (w ∷ ws) = clash held w || clashes_any held ws

-- some want that is held clashes with one that is asked for
abbrev pub clashes : List Want → List Want → Bool
clashes [] wants = false
clashes (v ∷ vs) wants = clashes_any v wants || clashes vs wants

abbrev pub wants_of : LockForm → List TableOp → List Want
wants_of form [] = []
wants_of form (o ∷ os) = form.wants o ++ wants_of form os

-- what the session holds
abbrev pub held : LockForm → ℕ → List Event → List Want
held form s h = wants_of form (ops_of s h)

-- session x holds what keeps the operation of s from being done
abbrev pub is_in_conflict : LockForm → List Event → ℕ → TableOp → ℕ → Bool
is_in_conflict form h s o x = not (x == s) && clashes (held form x h) (form.wants o)

abbrev pub IsFree : LockForm → List Event → ℕ → TableOp → Type 0
IsFree form h s o = (x : ℕ) → is_in_conflict form h s o x ≡ false

-- the form that the core goes by
abbrev pub core_locks : LockForm
core_locks = table_locks
