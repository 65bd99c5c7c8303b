-- What code replies.
use Rattle.std.specs.Prelude.{◌≡◌, ℕ, List, Option, Some, is_some}
use Rattle.px_value.specs.declared.value.Value.{Value}
use Rattle.px_value.specs.declared.object.Object.{Object}
use Rattle.px_value.specs.Outcome.{Gives}
use Rattle.px_code.specs.declared.method.Method.{Method}
use Rattle.px_code.specs.declared.code.Code.{Code}
use Rattle.px_code.specs.CodeRun.{Traced, method_at}
use Rattle.px_code.specs.Sound.{run_of}
use Rattle.px_code.specs.WellFormed.{IsWellFormed}

-- a method that ends gives a value where it has a type for it
abbrev pub RepliesAreDeclared : Type 0
RepliesAreDeclared = (code : Code) → IsWellFormed code → (heap : List Object) (number : ℕ) (args : List Value) (m : Method) → method_at code.methods number ≡ Some m
    → (v : Option Value) (s : Traced (Unit {0})) → run_of code heap number args ≡ Gives v s → is_some v ≡ is_some m.gives
