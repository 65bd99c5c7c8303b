-- How a call goes on.
use Rattle.std.specs.Prelude.{◌≡◌, ℕ, Result, Ok, Err}
use Rattle.px_value.specs.declared.thrown.Thrown.{Thrown}
use Rattle.px_blocks.specs.Machine.{Control, Left, goes, fails}
use Rattle.px_control.specs.declared.stop.Stop.{Stop}
use Rattle.px_control.specs.declared.stop.Stop.TheVariants.{Threw, NoMemory}

-- what follows goes on, or a throw ends the call
abbrev pub goes_on : Result (Unit {0}) Thrown → Control → (Control → Left) → Left
goes_on (Ok x) c f = f c
goes_on (Err t) c f = fails t c

-- control goes to block n, or a throw ends the call; where memory runs out it isn't told
abbrev pub IsCalled : Result (Unit {0}) Stop → ℕ → Control → Left → Type 0
IsCalled (Ok x) n c left = left ≡ goes n c
IsCalled (Err (Threw t)) n c left = left ≡ fails t c
IsCalled (Err NoMemory) n c left = Unit {0}

abbrev pub OnNoMemory : Result (Unit {0}) Stop → Type 0 → Type 0
OnNoMemory (Err NoMemory) P = P
OnNoMemory _ P = Unit {0}
