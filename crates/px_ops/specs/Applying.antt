-- How the operators' code meets their meaning.
use Rattle.std.specs.Prelude.{◌≡◌, true, false, Result, Ok, Err}
use Rattle.px_value.specs.declared.value.Value.{Value}
use Rattle.px_value.specs.Operators.{Applied, Pair as Meant, Numbers, Truths, Others}
use Rattle.px_ops.specs.declared.error.OpError.{OpError}
use Rattle.px_ops.specs.declared.error.OpError.TheVariants as error
use Rattle.px_ops.specs.declared.pair.Pair.{Pair}
use Rattle.px_ops.specs.declared.pair.Pair.TheVariants as pair

-- the value or the throw, unless memory ran out
abbrev pub ComesTo : Result Value OpError → Applied → Type 0
ComesTo (Ok v) a = a ≡ Ok v
ComesTo (Err (error.Thrown t)) a = a ≡ Err t
ComesTo (Err error.NoMemory) a = Unit {0}

abbrev pub meant : Pair → Meant
meant (pair.Ints a b) = Numbers false a b
meant (pair.Longs a b) = Numbers true a b
meant (pair.Bools a b) = Truths a b
meant pair.Others = Others
