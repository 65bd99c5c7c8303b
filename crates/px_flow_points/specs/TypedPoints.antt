-- What is proved of typed code.
use Rattle.std.specs.Prelude.{◌<◌, ◌-◌, ◌^◌, length}
use Rattle.px_normal.specs.declared.code.Code.{Code}
use Rattle.px_normal.specs.Typed.{IsTyped}
use Rattle.px_flow_points.specs.There.{NumbersExist}

abbrev pub TypedNumbersExist : Type 0
TypedNumbersExist = (code : Code) → IsTyped code → length code.methods < 2 ^ 16 - 1 → NumbersExist code
