use Rattle.std.proofs.Common.{◌≡◌, ◌++◌, map, drop}
use Rattle.px_named.specs.Named.{placed_field, placed_fields}
use Rattle.px_named.proofs.members.push_fields.Given as goal

abbrev pub invariant-loop-field : goal.invariant-loop-field
invariant-loop-field l =
    l.placed ++ map (placed_field l.sides l.class.name) (drop l.field-index l.class.fields) ≡ l.initial.placed ++ placed_fields l.sides l.class
