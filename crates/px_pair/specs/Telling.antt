-- A message goes from one end to the other.
use Rattle.std.specs.Prelude.{◌≡◌, ℕ, length, Some}
use Rattle.px_wire.specs.declared.message.Message.{Message}
use Rattle.px_wire.specs.Fitting.{HasSpelling}
use Rattle.px_wire.specs.Spelling.{spelling}
use Rattle.px_half.specs.End.{End}
use Rattle.px_half.specs.Messages.{IsMessage}
use Rattle.px_half.specs.Absorbed.{absorbed}

-- what an end sends is taken in by the other
abbrev pub IsWelcome : End → End → Type 0
IsWelcome from to = (message : Message) → IsMessage from.side from.block from message → (after : End) × (absorbed message to ≡ Some after)

-- it was, and is so long
pub record IsHeard (from to after : End) (n : ℕ) : Type 0 where
  pub message : Message
  pub is : IsMessage from.side from.block from message
  pub has_spelling : HasSpelling message
  pub taken : absorbed message to ≡ Some after
  pub long : n ≡ length (spelling message)
