use Rattle.std.proofs.Common.{◌≡◌, ◌++◌, map, drop}
use Rattle.px_plain.specs.Serial.{told_call}
use Rattle.px_main.specs.Run.{wanted}
use Rattle.px_main.proofs.serial.wanted_calls.Given as goal

abbrev pub invariant-loop-call : goal.invariant-loop-call
invariant-loop-call l = map wanted l.fn.calls ≡ map told_call l.all.items ++ map wanted (drop l.call-index l.calls)
