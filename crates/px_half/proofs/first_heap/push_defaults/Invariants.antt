use Rattle.std.proofs.Common.{◌≡◌, ◌++◌, map, drop}
use Rattle.px_value.specs.Defaults.{default_of}
use Rattle.px_half.proofs.first_heap.push_defaults.Given as goal

abbrev pub invariant-loop-field : goal.invariant-loop-field
invariant-loop-field l = l.cells ++ map default_of (map (λ f. f.ty) (drop l.field-index l.fn.fields)) ≡ l.fn.cells ++ map default_of (map (λ f. f.ty) l.fn.fields)
