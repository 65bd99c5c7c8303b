use Rattle.std.proofs.Common.{◌≡◌, ◌++◌, drop}
use Rattle.px_depend.specs.Local.{given_places}
use Rattle.px_depend.proofs.local.given.Given as goal

abbrev pub invariant-loop-line : goal.invariant-loop-line
invariant-loop-line l = l.places.items ++ given_places (drop l.line-index l.lines) ≡ given_places l.lines
