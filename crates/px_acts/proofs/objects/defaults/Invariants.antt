use Rattle.std.proofs.Common.{◌≡◌, ◌++◌, map, drop}
use Rattle.px_normal.specs.First.{field_default}
use Rattle.px_acts.proofs.objects.defaults.Given as goal

abbrev pub invariant-loop-field : goal.invariant-loop-field
invariant-loop-field l = l.values ++ map field_default (drop l.field-index l.fields) ≡ map field_default l.fn.fields
