use Rattle.std.proofs.Common.{◌≡◌, ◌++◌, drop}
use Rattle.px_job.specs.Titles.{field_titles}
use Rattle.px_job.proofs.titles.titles_of_fields.Given as goal

abbrev pub invariant-loop-class : goal.invariant-loop-class
invariant-loop-class l = l.titles ++ field_titles (drop l.class-index l.classes) ≡ field_titles l.classes
