-- How control goes through statements, of which some read and some write one slot.
use Rattle.std.specs.Prelude.{ℕ, Bool}

pub data Flow : Type 0 where
  Empty : Flow
  -- a statement, by its node, and whether it reads the slot, and writes it then
  Step : (node : ℕ) → (reads : Bool) → (writes : Bool) → Flow
  Then : Flow → Flow → Flow
  Either : Flow → Flow → Flow
  -- the first, and then any number of times the second and the first again
  Round : Flow → Flow → Flow
  -- nothing comes after it
  Stop : Flow
