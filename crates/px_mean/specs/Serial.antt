-- The serial run: calls one at a time, each on the heap of its session.
use Rattle.std.specs.Prelude.{ℕ, zero, suc, List, [], ◌∷◌, replicate, Option, Some, None, slice_set}
use Rattle.px_value.specs.declared.value.Value.{Value}
use Rattle.px_value.specs.declared.object.Object.{Object}
use Rattle.px_code.specs.declared.reply.Reply.TheVariants as reply
use Rattle.px_code.specs.declared.reply.Shown.{Shown}
use Rattle.px_mean.specs.Operations.{Ask}
use Rattle.px_mean.specs.Facts.{by_number}
use Rattle.px_mean.specs.Calls.{Source}
use Rattle.px_mean.specs.Entry.{Called, call_of, first_heap}

-- a call: its session from 1, its entry, and its arguments
pub record Call : Type 0 where
  pub session : ℕ
  pub entry : ℕ
  pub args : List Value

-- the heaps of the sessions, and the world
pub record Stand (W : Type 0) : Type 0 where
  pub heaps : List (List Object)
  pub world : W

-- sessions are numbered from 1
abbrev pub with_heap : List (List Object) → ℕ → List Object → List (List Object)
with_heap heaps zero heap = heaps
with_heap heaps (suc n) heap = slice_set heaps n heap

abbrev pub shown_of : {W : Type 0} → Called W → Shown
shown_of c = record { reply = c.reply; prints = c.prints }

abbrev pub stand_after : {W : Type 0} → Call → Called W → Stand W → Stand W
stand_after c called stand = record { heaps = with_heap stand.heaps c.session called.heap; world = called.world }

-- a call by the session that has this heap; a session that isn't there does nothing
abbrev pub call_by : {W : Type 0} → Ask ⊥ W → Source → Call → Option (List Object) → Stand W → Shown × Stand W
call_by ask P c None stand = (record { reply = reply.Void; prints = [] }, stand)
call_by ask P c (Some heap) stand = let called = call_of ask P heap stand.world c.entry c.args in (shown_of called, stand_after c called stand)

abbrev pub one_call : {W : Type 0} → Ask ⊥ W → Source → Call → Stand W → Shown × Stand W
one_call ask P c stand = call_by ask P c (by_number stand.heaps c.session) stand

-- the calls in order
unfoldable pub serves : {W : Type 0} → Ask ⊥ W → Source → List Call → Stand W → List Shown × Stand W
serves ask P [] stand = ([], stand)
serves ask P (c ∷ calls) stand =
    let one = one_call ask P c stand in
    let rest = serves ask P calls one.1 in
    (one.0 ∷ rest.0, rest.1)

-- so many sessions that have made no call
abbrev pub first_stand : {W : Type 0} → Source → ℕ → W → Stand W
first_stand P sessions world = record { heaps = replicate sessions (first_heap P.facts); world = world }

abbrev pub serial : {W : Type 0} → Ask ⊥ W → Source → ℕ → W → List Call → List Shown × Stand W
serial ask P sessions world calls = serves ask P calls (first_stand P sessions world)
