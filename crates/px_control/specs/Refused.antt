-- Where a message is refused, and what is absorbed.
use Rattle.std.specs.Prelude.{List, [], Result, Ok, Err}
use Rattle.px_value.specs.declared.object.Object.{Object}
use Rattle.px_blocks.specs.Machine.{Control, Machine}
use Rattle.px_control.specs.declared.absorb.AbsorbError.{AbsorbError}
use Rattle.px_control.specs.declared.absorb.AbsorbError.TheVariants.{BadMessage, NoMemory}

abbrev pub IfBad : {A : Type 0} → Result A AbsorbError → Type 0 → Type 0
IfBad (Ok a) P = Unit {0}
IfBad (Err BadMessage) P = P
IfBad (Err NoMemory) P = Unit {0}

-- a machine that has printed nothing
abbrev pub machine : List Object → Control → Machine
machine heap c = record { heap = heap; prints = []; control = c }
