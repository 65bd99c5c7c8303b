use Rattle.std.proofs.Common.{◌≡◌, ◌++◌, map, drop}
use Rattle.px_sql.specs.Words.{behind_commas, named, name_at, listed}
use Rattle.px_sql.proofs.words.push_listed.Given as goal

abbrev pub invariant-loop-place : goal.invariant-loop-place
invariant-loop-place l = l.words ++ behind_commas (map (λ c. named (name_at l.columns c)) (drop l.place-index l.rest)) ≡ l.fn.words ++ listed l.columns l.places
