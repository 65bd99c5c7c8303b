use Rattle.std.proofs.Common.{◌≡◌, ◌≤◌, List, ℕ, length, drop}
use Rattle.px_job.specs.Places.{place_in}
use Rattle.px_job.specs.Titles.{title_from}
use Rattle.px_job.proofs.titles.places_of.Given as goal

abbrev pub invariant-loop-place : goal.invariant-loop-place
invariant-loop-place l =
    record {
      found : (name : List ℕ) → place_in l.places.map name ≡ title_from name l.place (drop l.place l.titles);
      within : l.place ≤ length l.titles;
    }

abbrev pub decreases-loop-place : goal.decreases-loop-place
decreases-loop-place l = l.place
