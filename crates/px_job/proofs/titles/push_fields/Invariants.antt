use Rattle.std.proofs.Common.{◌≡◌, ◌++◌, drop}
use Rattle.px_job.specs.Titles.{titles_in}
use Rattle.px_job.proofs.titles.push_fields.Given as goal

abbrev pub invariant-loop-field : goal.invariant-loop-field
invariant-loop-field l = l.titles ++ titles_in l.owner (drop l.field-index l.field-items) ≡ l.fn.titles ++ titles_in l.owner l.field-items
