use Rattle.std.proofs.Common.{◌≡◌, ◌++◌, map, drop}
use Rattle.px_normal.specs.First.{field_default}
use Rattle.px_control.proofs.news.class_cells.Given as goal

abbrev pub invariant-loop-field : goal.invariant-loop-field
invariant-loop-field l = l.cells ++ map field_default (drop l.field-index l.fn.fields) ≡ map field_default l.fn.fields
