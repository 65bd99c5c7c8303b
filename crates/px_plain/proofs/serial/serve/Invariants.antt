use Rattle.std.proofs.Common.{◌≡◌, map, drop}
use Rattle.px_mean.specs.Program.{source_from}
use Rattle.px_plain.specs.Plain.{source_in, stands}
use Rattle.px_plain.specs.Serial.{told_call, serial_of}
use Rattle.px_plain.proofs.Served.{joined, goes_on}
use Rattle.px_plain.proofs.serial.serve.Given as goal

abbrev pub invariant-loop-call : goal.invariant-loop-call
invariant-loop-call l = record {
  source : source_in l.plain ≡ source_from l.fn.checked;
  calls : serial_of l.fn.checked l.fn.sessions l.fn.tables (map told_call l.fn.calls) ≡ joined l.shown.items (goes_on (source_from l.fn.checked) (map told_call (drop l.call-index l.calls)) (stands l.plain));
}
