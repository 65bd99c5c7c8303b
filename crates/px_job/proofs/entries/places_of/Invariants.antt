use Rattle.std.proofs.Common.{◌≡◌, ◌≤◌, List, ℕ, length, drop}
use Rattle.px_job.specs.Places.{place_from, place_in}
use Rattle.px_job.proofs.entries.places_of.Given as goal

abbrev pub invariant-loop-place : goal.invariant-loop-place
invariant-loop-place l =
    record {
      found : (name : List ℕ) → place_in l.places.map name ≡ place_from name l.place (drop l.place l.entries);
      within : l.place ≤ length l.entries;
    }

abbrev pub decreases-loop-place : goal.decreases-loop-place
decreases-loop-place l = l.place
