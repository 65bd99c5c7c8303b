use Rattle.std.proofs.Common.{◌≡◌, ◌+◌, ◌++◌, drop}
use Rattle.px_job.specs.Titles.{method_titles}
use Rattle.px_job.proofs.titles.titles_of_methods.Given as goal

abbrev pub invariant-loop-method : goal.invariant-loop-method
invariant-loop-method l =
    record {
      counted : l.number ≡ l.method-index;
      same : l.titles ++ method_titles l.classes l.owners (l.method-index + 1) (drop l.method-index l.methods) ≡ method_titles l.classes l.owners 1 l.methods;
    }
