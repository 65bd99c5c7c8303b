-- What a run of code carries from statement to statement and from frame to frame.
use Rattle.std.specs.Prelude.{ℕ, List, [], ◌∷◌, ◌++◌}
use Rattle.px_value.specs.Outcome.{Outcome, Gives, Throws, Asks, Run, State}
use Rattle.px_effects.specs.Run.{Shared}
use Rattle.px_effects.specs.Act.{Place}
use Rattle.px_normal.specs.First.{Slots}

-- a statement that ran, with the cells that it read and wrote
pub record Ran : Type 0 where
  pub node : ℕ
  pub reads : List Place
  pub writes : List Place

-- what frames share, and the statements that ran
pub record Traced (W : Type 0) : Type 0 where
  pub shared : Shared W
  pub ran : List Ran

abbrev pub Frame : Type 0 → Type 0
Frame W = State Slots (Traced W)

-- in a frame
abbrev pub Here : Type 0 → Type 0 → Type 0 → Type 0
Here Q W A = Run Q (Frame W) A

-- in what frames share
abbrev pub There : Type 0 → Type 0 → Type 0 → Type 0
There Q W A = Run Q (Traced W) A

abbrev pub with_ran : {Q W A : Type 0} → List Ran → Outcome Q (Shared W) A → Outcome Q (Traced W) A
with_ran ran (Gives a s) = Gives a (record { shared = s; ran = ran })
with_ran ran (Throws t s) = Throws t (record { shared = s; ran = ran })
with_ran ran (Asks q s) = Asks q (record { shared = s; ran = ran })

-- what notes no statement
abbrev pub on_traced : {Q W A : Type 0} → Run Q (Shared W) A → There Q W A
on_traced r = λ g. with_ran g.ran (r g.shared)

-- a statement is noted, with what it read and wrote
abbrev pub noted : {W : Type 0} → ℕ → (reads writes : List Place) → Traced W → Traced W
noted node reads writes g = record g { ran = g.ran ++ record { node = node; reads = reads; writes = writes } ∷ [] }

-- a run without the statements that ran
abbrev pub untraced : {Q W A : Type 0} → Outcome Q (Traced W) A → Outcome Q (Shared W) A
untraced (Gives a g) = Gives a g.shared
untraced (Throws t g) = Throws t g.shared
untraced (Asks q g) = Asks q g.shared
