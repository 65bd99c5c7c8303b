-- How the serial run's calls meet the meaning.
use Rattle.std.specs.Prelude.{ℕ, List}
use Rattle.px_value.specs.declared.object.Object.{Object}
use Rattle.px_code.specs.declared.reply.Shown.{Shown}
use Rattle.px_facts.specs.declared.checked.Checked.{Checked}
use Rattle.px_rows.specs.Tables.{Tables}
use Rattle.px_mean.specs.Asks.{by_tables}
use Rattle.px_mean.specs.Program.{source_from}
use Rattle.px_mean.specs.Serial.{Call, Stand, serial}
use Rattle.px_plain.specs.declared.serial.Call.{Call as CallData}
use Rattle.px_plain.specs.Plain.{call_with, stand_of}

abbrev pub told_call : CallData → Call
told_call c = call_with c.session c.entry c.args.now

abbrev pub serial_of : Checked → ℕ → Tables → List Call → List Shown × Stand Tables
serial_of checked sessions tables calls = serial by_tables (source_from checked) sessions tables calls

abbrev pub ran_of : List Shown → List (List Object) → Tables → List Shown × Stand Tables
ran_of shown heaps tables = (shown, stand_of heaps tables)
