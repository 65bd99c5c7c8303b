-- The words of the command line.
use Rattle.std.specs.Prelude.{ℕ, ◌&&◌, not, if◌then◌else◌, Bool, List, [], ◌∷◌, Option, Some, None, codes, length, ◌==◌}
use Rattle.std.specs.Str.{bytes_eq}
use Rattle.px_main.specs.declared.command.Kind.{Kind}
use Rattle.px_main.specs.declared.command.Kind.TheVariants.{Run, Split, Solo}
use Rattle.px_main.specs.declared.command.Command.{Command as CommandData}
use Rattle.px_main.specs.declared.command.Command.TheVariants as command

-- What is done, and the names of the files: a program is checked, or the calls of a job are served.
pub data Command : Type 0 where
  Checks : (program : List ℕ) → Command
  Serves : (kind : Kind) (program job : List ℕ) → Command

-- names aren't empty
abbrev pub is_named : List ℕ → Bool
is_named name = not (length name == 0)

abbrev pub kind_of : List ℕ → Option Kind
kind_of word = if bytes_eq word (codes "run") then Some Run else if bytes_eq word (codes "split") then Some Split else if bytes_eq word (codes "solo") then Some Solo else None

abbrev pub command_with : List ℕ → List ℕ → Option Kind → Option Command
command_with program job None = None
command_with program job (Some kind) = if is_named program && is_named job then Some (Serves kind program job) else None

-- `check` and a name, or `run`, `split` or `solo` and two names
abbrev pub command_of : List (List ℕ) → Option Command
command_of (word ∷ program ∷ []) = if bytes_eq word (codes "check") && is_named program then Some (Checks program) else None
command_of (word ∷ program ∷ job ∷ []) = command_with program job (kind_of word)
command_of _ = None

abbrev pub told_by : CommandData → Command
told_by (command.Check program) = Checks program.now
told_by (command.Serve kind program job) = Serves kind program.now job.now
