-- What a roll back takes back: old values of cells, and new objects.
use Rattle.std.specs.Prelude.{◌≡◌, ℕ, List, [], ◌∷◌, ◌++◌, take, length, Option, Some, None}
use Rattle.px_value.specs.declared.value.Value.{Value}
use Rattle.px_value.specs.declared.object.Object.{Object}
use Rattle.px_value.specs.Heap.{cell_at, written}
use Rattle.px_blocks.specs.declared.side.Side.{Side}
use Rattle.px_blocks.specs.declared.side.Side.TheVariants.{App, Db}
use Rattle.px_effects.specs.Run.{Ask}
use Rattle.px_blocks.specs.Plan.{Plan}
use Rattle.px_blocks.specs.One.{Step, Goes, Ended, Falls, Waits, Asks}
use Rattle.px_ends.specs.Agree.{at_app}
use Rattle.px_ends.specs.Runs.{Pair, pair_run}

-- an end changes its heap by writing a cell or by adding an object
pub data Change : Type 0 where
  Writes : (object index : ℕ) → Value → Change
  Adds : Object → Change

abbrev pub changed : Change → List Object → List Object
changed (Writes o i v) heap = written heap o i v
changed (Adds x) heap = heap ++ x ∷ []

-- what stood in a cell, the latest first
pub record Undo : Type 0 where
  pub object : ℕ
  pub index : ℕ
  pub value : Value

abbrev pub note : Option Value → ℕ → ℕ → List Undo → List Undo
note None o i us = us
note (Some v) o i us = record { object = o; index = i; value = v } ∷ us

abbrev pub noted : Change → List Object → List Undo → List Undo
noted (Writes o i v) heap us = note (cell_at heap o i) o i us
noted (Adds x) heap us = us

-- a heap with its undo list
pub record Logged : Type 0 where
  pub heap : List Object
  pub undo : List Undo

abbrev pub logged : Change → Logged → Logged
logged c l = record { heap = changed c l.heap; undo = noted c l.heap l.undo }

abbrev pub all_logged : List Change → Logged → Logged
all_logged [] l = l
all_logged (c ∷ cs) l = all_logged cs (logged c l)

abbrev pub undone : List Undo → List Object → List Object
undone [] heap = heap
undone (u ∷ us) heap = undone us (written heap u.object u.index u.value)

-- back to the heap of so many objects that stood at the last close
abbrev pub rolled_back : ℕ → Logged → List Object
rolled_back n l = take n (undone l.undo l.heap)

abbrev pub closed : List Object → Logged
closed heap = record { heap = heap; undo = [] }

-- whatever an end did to its heap since the last close, the undo list leads back
abbrev pub RollsBack : Type 0
RollsBack = (changes : List Change) (heap : List Object) → rolled_back (length heap) (all_logged changes (closed heap)) ≡ heap

-- a heap comes of another by changes
pub record Reached (from to : List Object) : Type 0 where
  pub changes : List Change
  pub undo : List Undo
  pub is : all_logged changes (closed from) ≡ record { heap = to; undo = undo }

abbrev pub heap_at : {W : Type 0} → Side → Pair W → List Object
heap_at App p = at_app p.side p.near.heap p.far.heap
heap_at Db p = at_app p.side p.far.heap p.near.heap

abbrev pub pair_of : {Q W : Type 0} → Step Q (Pair W) → Pair W
pair_of (Goes p) = p
pair_of (Ended p) = p
pair_of (Falls t p) = p
pair_of (Waits op s p) = p
pair_of (Asks q s p) = p

-- wherever a run stops, each end's heap comes of the one that it began with, so a roll back leads there
pub record CanRollBack {W : Type 0} (before after : Pair W) : Type 0 where
  pub app : Reached (heap_at App before) (heap_at App after)
  pub db : Reached (heap_at Db before) (heap_at Db after)

abbrev pub RunsRollBack : Type 0 → Type 0 → Type 0
RunsRollBack Q W = (plan : Plan) (ask : Ask Q W) (n : ℕ) (p : Pair W) → CanRollBack p (pair_of (pair_run plan ask n p))
