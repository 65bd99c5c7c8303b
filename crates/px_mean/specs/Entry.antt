-- The meaning of an entry call: a transaction on its session's heap and on the world.
use Rattle.std.specs.Prelude.{ℕ, List, [], ◌∷◌, Option, Some, None, slice_get}
use Rattle.px_value.specs.declared.value.Value.{Value}
use Rattle.px_value.specs.declared.value.Value.TheVariants.{Ref}
use Rattle.px_value.specs.declared.object.Object.{Object}
unfoldable pub use Rattle.px_value.specs.Limits.{all_frames}
use Rattle.px_value.specs.Outcome.{Outcome, Gives, Throws, Asks}
use Rattle.px_facts.specs.declared.checked.Entry.{Entry}
use Rattle.px_facts.specs.declared.checked.Facts.{Facts}
use Rattle.px_code.specs.declared.reply.Reply.{Reply}
use Rattle.px_code.specs.declared.reply.Reply.TheVariants as reply
use Rattle.px_mean.specs.Run.{Shared}
use Rattle.px_mean.specs.Facts.{fields_of}
use Rattle.px_effects.specs.Act.{new_object}
use Rattle.px_effects.specs.Cells.{first_cells, object_header}
use Rattle.px_mean.specs.Effects.{fresh_with}
use Rattle.px_mean.specs.Operations.{Ask}
use Rattle.px_mean.specs.Calls.{Source, calls_in}

-- a session's first heap: one object of Main, before anything is written
abbrev pub first_heap : Facts → List Object
first_heap F = let fresh = fresh_with (fields_of F F.main.class) in new_object (first_cells fresh) (object_header fresh F.main.class 0) ∷ []

-- the run of a method as an entry: object 0 of the heap is `this`
abbrev pub exec : {Q W : Type 0} → Ask Q W → Source → List Object → W → ℕ → List Value → Outcome Q (Shared W) (Option Value)
exec ask P heap world method args = calls_in ask P all_frames method (Ref 0 ∷ args) (record { heap = heap; world = world; prints = []; turns = 0; operations = 0 })

-- what an entry call leaves
pub record Called (W : Type 0) : Type 0 where
  pub reply : Reply
  pub prints : List (List ℕ)
  pub heap : List Object
  pub world : W

abbrev pub reply_of : Option Value → Reply
reply_of None = reply.Void
reply_of (Some v) = reply.Value v

-- An uncaught throw undoes the heap, the world and the prints, and is the reply.
-- Whatever is asked here is answered, so no question is left open.
abbrev pub ended : {W : Type 0} → List Object → W → Outcome ⊥ (Shared W) (Option Value) → Called W
ended heap world (Gives v s) = record { reply = reply_of v; prints = s.prints; heap = s.heap; world = s.world }
ended heap world (Throws t s) = record { reply = reply.Threw t; prints = []; heap = heap; world = world }
ended heap world (Asks q s) = absurd q

-- an entry that isn't there does nothing
abbrev pub called_entry : {W : Type 0} → Ask ⊥ W → Source → List Object → W → Option Entry → List Value → Called W
called_entry ask P heap world None args = record { reply = reply.Void; prints = []; heap = heap; world = world }
called_entry ask P heap world (Some entry) args = ended heap world (exec ask P heap world entry.method args)

-- entries go by their places, from 0
unfoldable pub call_of : {W : Type 0} → Ask ⊥ W → Source → List Object → W → ℕ → List Value → Called W
call_of ask P heap world entry args = called_entry ask P heap world (slice_get P.facts.main.entries entry) args
