use Rattle.std.proofs.Common.{List, map, ap, ◌∙◌}
use Rattle.px_plain.specs.declared.serial.Call.{Call}
use Rattle.px_plain.specs.declared.serial.Ran.{Ran}
use Rattle.px_plain.specs.Serial.{told_call}
use Rattle.px_main.specs.Run.{wanted, tables_of}
use Rattle.px_main.proofs.Ran.{served}
use Rattle.px_main.proofs.serial.run_serial.Goals as goal

pub returns : goal.returns
returns c =
    let same = ap (λ (calls : List Call). map told_call calls) c.as_slice-3.ensures.value ∙ c.in_ok-wanted.ensures ∙ ap (map wanted) c.as_slice.ensures in
    let tables = c.in_ok-tables.ensures ∙ ap (tables_of c.args.checked.now.schema) c.as_slice-2.ensures in
    served c.args.checked.now c.args.job.now _ c.in_ok-tables.tables same tables (λ (r : Ran). r.shown.items) (λ (r : Ran). r.heaps.items) (λ (r : Ran). r.tables) c.serve.result c.serve.ensures
