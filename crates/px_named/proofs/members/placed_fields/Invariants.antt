use Rattle.std.proofs.Common.{◌≡◌, ◌++◌, drop}
use Rattle.std.specs.List.{flat_map}
use Rattle.px_named.specs.Named.{placed_fields}
use Rattle.px_named.proofs.members.placed_fields.Given as goal

abbrev pub invariant-loop-class : goal.invariant-loop-class
invariant-loop-class l = l.placed ++ flat_map (placed_fields l.fn.sides) (drop l.class-index l.fn.classes) ≡ flat_map (placed_fields l.fn.sides) l.fn.classes
