-- What is known of the files behind an answer, also where the shelf tells nothing of them.
use Rattle.std.specs.Prelude.{◌≡◌, ℕ, ◌+◌, List, length, Option, Some, None}
use Rattle.px_outside.specs.Outside.{Handed}
use Rattle.px_main.specs.declared.command.Kind.{Kind}
use Rattle.px_main.specs.Commands.{Command, Checks, Serves}
use Rattle.px_main.specs.Answers.{Answer, Holds, IsAnswer, IsChecked, Allows, max_program, max_job}

-- how many bytes are read of a file: all, or one more than its limit where it is too long
abbrev pub read_of : ℕ → Option (List ℕ) → ℕ
read_of limit None = limit + 1
read_of limit (Some file) = length file

-- The answer is one over files of which just so many bytes were handed out.
pub record IsOverProgram (h h' : ℕ) (a : Answer) : Type 0 where
  pub program : Option (List ℕ)
  pub answers : IsChecked program a
  pub handed : Handed h (read_of max_program program) h'

pub record IsOverBoth (kind : Kind) (h h' : ℕ) (a : Answer) : Type 0 where
  pub program : Option (List ℕ)
  pub job : Option (List ℕ)
  pub answers : IsAnswer kind program job a
  pub handed : Handed h (read_of max_program program + read_of max_job job) h'

abbrev pub IsOverFiles : Command → ℕ → ℕ → Answer → Type 0
IsOverFiles (Checks program) h h' a = IsOverProgram h h' a
IsOverFiles (Serves kind program job) h h' a = IsOverBoth kind h h' a

-- An answer after all files of the command were read: none of the reads failed. s and h are the shelf's counts of
-- faults and of bytes that it handed out, before and after.
pub record IsAfterReading (c : Command) (holds : Holds) (s s' h h' : ℕ) (a : Answer) : Type 0 where
  pub allowed : Allows c holds a
  pub unfailed : s' ≡ s
  pub over : IsOverFiles c h h' a
