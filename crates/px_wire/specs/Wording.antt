-- The laws of the spelling.
use Rattle.std.specs.Prelude.{◌≡◌}
use Rattle.px_wire.specs.declared.message.Message.{Message}
use Rattle.px_wire.specs.Spelling.{spelling}
use Rattle.px_wire.specs.Fitting.{HasSpelling, IsInRange}

-- no two messages have one spelling
abbrev pub SpellingsDiffer : Type 0
SpellingsDiffer = (m n : Message) → IsInRange m → IsInRange n → HasSpelling m → HasSpelling n → spelling m ≡ spelling n → m ≡ n
