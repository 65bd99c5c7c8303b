use Rattle.std.proofs.Common.{◌≡◌, ◌++◌, map, drop}
use Rattle.std.specs.List.{flat_map}
use Rattle.px_pyxil.specs.declared.line.Line.TheVariants as line
use Rattle.px_pyxil.specs.Spelling.{line_text}
use Rattle.px_pyxil.proofs.printing.push_fields.Given as goal

abbrev pub invariant-loop-field : goal.invariant-loop-field
invariant-loop-field l =
    l.text.items ++ flat_map line_text (map line.Field (drop l.field-index l.fields)) ≡ l.initial.text.items ++ flat_map line_text (map line.Field l.fields)
