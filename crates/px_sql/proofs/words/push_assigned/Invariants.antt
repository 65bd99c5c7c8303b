use Rattle.std.proofs.Common.{◌≡◌, ◌++◌, map, drop}
use Rattle.px_sql.specs.Words.{behind_commas, equals, name_at, assigned}
use Rattle.px_sql.proofs.words.push_assigned.Given as goal

abbrev pub invariant-loop-place : goal.invariant-loop-place
invariant-loop-place l = l.words ++ behind_commas (map (λ c. equals (name_at l.columns c)) (drop l.place-index l.rest)) ≡ l.fn.words ++ assigned l.columns l.places
