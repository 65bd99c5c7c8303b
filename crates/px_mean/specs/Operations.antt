-- What calls of `Db` do. Whoever runs a program says how the tables answer.
use Rattle.std.specs.Prelude.{ℕ, List, Option}
use Rattle.px_value.specs.declared.value.Value.{Value}
use Rattle.px_facts.specs.declared.operation.Operation.{Operation}
pub use Rattle.px_effects.specs.Run.{Ask}
pub use Rattle.px_effects.specs.Operations.{max_operations}
use Rattle.px_effects.specs.Cells.{first_cells}
use Rattle.px_effects.specs.Rows.{make_rows, changed}
use Rattle.px_effects.specs.Operations.{operation, works}
use Rattle.px_mean.specs.Run.{There}
use Rattle.px_mean.specs.Effects.{no_object, statement_in}

-- the rows become an object of the heap
abbrev pub query : {Q W : Type 0} → Ask Q W → ℕ → ℕ → Option Operation → List Value → There Q W Value
query ask number site o values = works (first_cells no_object) ask (operation number (statement_in o) values) (make_rows number site)

abbrev pub update : {Q W : Type 0} → Ask Q W → ℕ → Option Operation → List Value → There Q W Value
update ask number o values = works (first_cells no_object) ask (operation number (statement_in o) values) changed
