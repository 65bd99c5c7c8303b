-- What was judged, without the code.
use Rattle.std.specs.Prelude.{Result, Ok, Err}
use Rattle.px_main.specs.declared.fault.Fault.{Fault}
use Rattle.px_main.specs.declared.judge.Split.{Split}
use Rattle.px_main.specs.Whole.{Found}

abbrev pub found_in : Result Split Fault → Found
found_in (Ok s) = Ok s.checked
found_in (Err fault) = Err fault
