use Rattle.std.proofs.Common.{◌≡◌, ◌++◌, drop}
use Rattle.px_sql.specs.Reading.{places_of}
use Rattle.px_sql.proofs.guess.places_of.Given as goal

abbrev pub invariant-loop-name : goal.invariant-loop-name
invariant-loop-name l = l.places ++ places_of l.columns (drop l.name-index l.names) ≡ places_of l.columns l.names
