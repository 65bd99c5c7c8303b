use Rattle.std.proofs.Common.{◌≡◌, ◌++◌, map, drop}
use Rattle.px_straight.specs.Simple.{simple_field}
use Rattle.px_straight.proofs.methods.simple_fields.Given as goal

abbrev pub invariant-loop-field : goal.invariant-loop-field
invariant-loop-field l = l.all ++ map simple_field (drop l.field-index l.fn.fields) ≡ map simple_field l.fn.fields
