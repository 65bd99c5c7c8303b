use Rattle.std.proofs.Common.{◌≡◌, ◌++◌, drop, map}
use Rattle.px_types.specs.Checked.{type_in}
use Rattle.px_types.proofs.verdict.field_types.Given as goal

abbrev pub invariant-loop-field : goal.invariant-loop-field
invariant-loop-field l = record {
  types : l.types ++ map type_in (drop l.field-index l.fn.fields) ≡ map type_in l.fn.fields;
}
