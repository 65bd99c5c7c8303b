-- What holds of runs with marks.
use Rattle.std.specs.Prelude.{◌≡◌, ℕ, List}
use Rattle.px_value.specs.declared.value.Value.{Value}
use Rattle.px_value.specs.declared.object.Object.{Object}
use Rattle.px_effects.specs.Run.{Ask}
use Rattle.px_mean.specs.Calls.{Source}
use Rattle.px_mean.specs.Entry.{exec}
use Rattle.px_counts.specs.Marks.{unmarked}
use Rattle.px_counts.specs.Runs.{exec_with_marks}

-- A run with its marks is the run.
abbrev pub MarksChangeNothing : (Q W : Type 0) → Type 0
MarksChangeNothing Q W = (ask : Ask Q W) (P : Source) (heap : List Object) (world : W) (method : ℕ) (args : List Value)
    → unmarked (exec_with_marks ask P heap world method args) ≡ exec ask P heap world method args
