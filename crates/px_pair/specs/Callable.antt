-- Calls that jobs may make.
use Rattle.std.specs.Prelude.{◌≡◌, ℕ, true, List, length}
use Rattle.std.specs.List.{AllByRecursion}
use Rattle.px_value.specs.declared.value.Value.{Value}
use Rattle.px_code.specs.declared.method.Method.{Method}
use Rattle.px_code.specs.declared.code.Code.{Code}
use Rattle.px_code.specs.Points.{IsMethod}
use Rattle.px_code.specs.Sound.{IsNoReference}
use Rattle.px_wire.specs.Fitting.{HasShortText}

-- an entry, and arguments for it: no references, and texts short enough for a message
pub record IsCallable (code : Code) (number : ℕ) (args : List Value) : Type 0 where
  pub method : Method
  pub is : IsMethod code number method
  pub entry : method.entry ≡ true
  pub counted : length args ≡ method.params
  pub plain : AllByRecursion IsNoReference args
  pub short : AllByRecursion HasShortText args
