use Rattle.std.proofs.Common.{◌≡◌, ◌++◌, ℕ, [], drop, nat_eq, unwrap_or}
use Rattle.std.specs.HashMap.{get}
use Rattle.px_depend.specs.Places.{nodes_at}
use Rattle.px_depend.proofs.groups.grouped.Given as goal

abbrev pub invariant-loop-place : goal.invariant-loop-place
invariant-loop-place l = (slot : ℕ) → unwrap_or (get nat_eq l.groups slot) [] ++ nodes_at slot (drop l.place-index l.places) ≡ nodes_at slot l.places
