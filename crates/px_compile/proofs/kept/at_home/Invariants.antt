use Rattle.std.proofs.Common.{◌≡◌, ◌++◌, drop}
use Rattle.px_compile.specs.Kept.{at_home}
use Rattle.px_compile.proofs.kept.at_home.Given as goal

abbrev pub invariant-loop-field : goal.invariant-loop-field
invariant-loop-field l = l.marks.items ++ at_home l.sides l.side (drop l.field-index l.fields) ≡ at_home l.sides l.side l.fields
