-- Attempts of calls in a history. A history stands here with its latest event first, so that each word is a recursion
-- over what came before.
use Rattle.std.specs.Prelude.{ℕ, ◌+◌, Bool, true, false, not, ◌==◌, ◌&&◌, ◌||◌, nat_le, List, [], ◌∷◌, ◌++◌, Option, Some, None, if◌then◌else◌, is_some}
use Rattle.px_value.specs.declared.statement.TableOp.{TableOp}
use Rattle.px_history.specs.declared.event.Event.{Event}
use Rattle.px_history.specs.declared.event.Event.TheVariants.{Begin, Op, Die, End, Drop}

abbrev pub session_of : Event → ℕ
session_of (Begin session call attempt) = session
session_of (Op session op) = session
session_of (Die session op holder) = session
session_of (End session done) = session
session_of (Drop session) = session

-- an event of this session
abbrev pub is_of : ℕ → Event → Bool
is_of s e = session_of e == s

-- ---- the attempt of a session

abbrev pub ops_after : Event → List TableOp → List TableOp
ops_after (Begin session call attempt) ops = []
ops_after (Op session op) ops = ops ++ op ∷ []
ops_after (Die session op holder) ops = []
ops_after (End session done) ops = []
ops_after (Drop session) ops = []

-- the operations of the session's attempt, in their order; none where it isn't active
unfoldable pub ops_of : ℕ → List Event → List TableOp
ops_of s [] = []
ops_of s (e ∷ h) = if is_of s e then ops_after e (ops_of s h) else ops_of s h

abbrev pub call_after : Event → Option ℕ → Option ℕ
call_after (Begin session call attempt) now = Some call
call_after (Op session op) now = now
call_after (Die session op holder) now = None
call_after (End session done) now = None
call_after (Drop session) now = None

-- the call that the session is in
unfoldable pub call_of : ℕ → List Event → Option ℕ
call_of s [] = None
call_of s (e ∷ h) = if is_of s e then call_after e (call_of s h) else call_of s h

abbrev pub is_active : ℕ → List Event → Bool
is_active s h = is_some (call_of s h)

-- ---- stamps: the first Begins counted

abbrev pub begins : ℕ → ℕ → Event → Bool
begins s c (Begin session call attempt) = (session == s) && (call == c)
begins s c _ = false

unfoldable pub begun : ℕ → ℕ → List Event → Bool
begun s c [] = false
begun s c (e ∷ h) = begins s c e || begun s c h

abbrev pub is_first : Event → List Event → Bool
is_first (Begin session call attempt) h = not (begun session call h)
is_first _ h = false

-- how many calls have begun
unfoldable pub stamps : List Event → ℕ
stamps [] = 0
stamps (e ∷ h) = if is_first e h then stamps h + 1 else stamps h

-- the number of first Begins up to and with that of the call
unfoldable pub stamp_of_call : ℕ → ℕ → List Event → ℕ
stamp_of_call s c [] = 0
stamp_of_call s c (e ∷ h) = if begun s c h then stamp_of_call s c h else if begins s c e then stamps h + 1 else 0

abbrev pub stamp_in : ℕ → Option ℕ → List Event → ℕ
stamp_in s None h = 0
stamp_in s (Some c) h = stamp_of_call s c h

-- the stamp of the call that the session is in
abbrev pub stamp_of : ℕ → List Event → ℕ
stamp_of s h = stamp_in s (call_of s h) h

-- ---- calls that are over

abbrev pub is_call : ℕ → Option ℕ → Bool
is_call c None = false
is_call c (Some d) = c == d

abbrev pub is_death : Event → Bool
is_death (Die session op holder) = true
is_death _ = false

abbrev pub is_end : Event → Bool
is_end (End session done) = true
is_end _ = false

-- how often the session died in this call
unfoldable pub deaths : ℕ → ℕ → List Event → ℕ
deaths s c [] = 0
deaths s c (e ∷ h) = if is_of s e && is_death e && is_call c (call_of s h) then deaths s c h + 1 else deaths s c h

unfoldable pub has_ended : ℕ → ℕ → List Event → Bool
has_ended s c [] = false
has_ended s c (e ∷ h) = (is_of s e && is_end e && is_call c (call_of s h)) || has_ended s c h

-- the call has an End, or has died as often as it may
abbrev pub is_over : ℕ → ℕ → ℕ → List Event → Bool
is_over retries s c h = has_ended s c h || nat_le (retries + 1) (deaths s c h)

-- the holder that killed the call last, with the call that it was in
pub record Killer : Type 0 where
  pub session : ℕ
  pub call : Option ℕ

abbrev pub killer_in : Event → List Event → Option Killer → Option Killer
killer_in (Die session op holder) h before = Some (record { session = holder; call = call_of holder h })
killer_in _ h before = before

unfoldable pub killer_of : ℕ → ℕ → List Event → Option Killer
killer_of s c [] = None
killer_of s c (e ∷ h) = if is_of s e && is_call c (call_of s h) then killer_in e h (killer_of s c h) else killer_of s c h
