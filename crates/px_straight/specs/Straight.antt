-- Straight code: all its statements are words that two ends take.
use Rattle.std.specs.Prelude.{ℕ, Option, Some, None, Result, Ok, Err}
use Rattle.px_normal.specs.declared.code.Code.{Code}
use Rattle.px_code.specs.declared.code.Code.{Code as SimpleCode}
use Rattle.px_straight.specs.Taken.{later}
use Rattle.px_straight.specs.Simple.{simple_code}

abbrev pub unless_later : Option ℕ → SimpleCode → Result SimpleCode ℕ
unless_later None code = Ok code
unless_later (Some line) code = Err line

-- the code for two ends, or the line of the first statement that they don't take yet
unfoldable pub straight : Code → Result SimpleCode ℕ
straight code = unless_later (later code) (simple_code code)
