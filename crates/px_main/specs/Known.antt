-- What the commands know of a program that they accept.
use Rattle.std.specs.Prelude.{◌≡◌, ℕ, List, Ok}
use Rattle.px_value.specs.declared.schema.Schema.{Schema}
use Rattle.px_tree.specs.declared.Program.{Program}
use Rattle.px_facts.specs.declared.checked.Checked.{Checked}
use Rattle.px_types.specs.Checked.{checked_of}
use Rattle.px_soundness.specs.Laws.{IsAccepted}
use Rattle.px_lowering.specs.Programs.{lowered}
use Rattle.px_straight.specs.Straight.{straight}
use Rattle.px_main.specs.declared.judge.Split.{Split}

-- it is all that is known of a text's program that keeps the rules
pub record IsKnown (c : Checked) : Type 0 where
  pub bytes : List ℕ
  pub program : Program
  pub schema : Schema
  pub accepted : IsAccepted bytes program schema
  pub is : c ≡ checked_of program schema

-- it is known, with its code, all of which two ends take
pub record IsSplit (s : Split) : Type 0 where
  pub known : IsKnown s.checked
  pub code : s.code ≡ lowered s.checked
  pub simple : straight s.code ≡ Ok s.simple
