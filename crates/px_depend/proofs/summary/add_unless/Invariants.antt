use Rattle.std.proofs.Common.{◌≡◌, ◌++◌, ℕ, List, drop}
use Rattle.px_depend.specs.Places.{AreSlots, others}
use Rattle.px_depend.proofs.summary.add_unless.Given as goal

abbrev pub invariant-loop-place : goal.invariant-loop-place
invariant-loop-place l = (slots : List ℕ) → AreSlots l.set slots → l.into.items ++ others slots (drop l.place-index l.places) ≡ l.fn.into.items ++ others slots l.places
