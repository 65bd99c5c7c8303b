-- Operations on tables: what is sent, what is asked, and what is done with what is said.
use Rattle.std.specs.Prelude.{ℕ, ◌+◌, nat_le, nat_lt, Bool, true, false, ◌&&◌, List, length, Option, Some, None, Result, Ok, Err, if◌then◌else◌}
use Rattle.std.specs.List.{list_any, list_all, sum_by}
use Rattle.px_value.specs.declared.value.Value.{Value}
use Rattle.px_value.specs.declared.value.Value.TheVariants.{Text, Null}
use Rattle.px_value.specs.declared.thrown.Thrown.{Thrown}
use Rattle.px_value.specs.declared.thrown.Thrown.TheVariants.{SQLException, TextTooLong, OpsOut}
use Rattle.px_value.specs.declared.statement.Statement.{Statement}
use Rattle.px_value.specs.declared.statement.TableOp.{TableOp}
use Rattle.px_value.specs.declared.answer.Answer.{Answer}
use Rattle.px_value.specs.Outcome.{Gives, ◌>>=◌, pure}
pub use Rattle.px_value.specs.Limits.{max_operations, max_parameter, max_texts}
use Rattle.px_effects.specs.Run.{Shared, There, Ask, asked}
use Rattle.px_effects.specs.Act.{Act, Comes, Firsts, does}
use Rattle.px_effects.specs.Cells.{comes}

-- ---- what is sent

abbrev pub is_null : Value → Bool
is_null Null = true
is_null _ = false

abbrev pub text_size : Value → ℕ
text_size (Text bytes) = length bytes
text_size _ = 0

abbrev pub is_short : Value → Bool
is_short v = nat_le (text_size v) max_parameter

abbrev pub are_short : List Value → Bool
are_short values = list_all is_short values && nat_le (sum_by text_size values) max_texts

-- the parameters that are sent: a null is looked for first
abbrev pub sent : List Value → Result (List Value) Thrown
sent values = if list_any is_null values then Err SQLException else if are_short values then Ok values else Err TextTooLong

abbrev pub operation_with : ℕ → Statement → List Value → TableOp
operation_with number statement params = record { number = number; statement = statement; params = params }

-- what a statement does in its own frame: an act, or a question to the tables
pub data Work : Type 0 where
  Acts : Act → Work
  Operates : TableOp → Work

abbrev pub operates_on : ℕ → Statement → Result (List Value) Thrown → Work
operates_on number s (Ok params) = Operates (operation_with number s params)
operates_on number s (Err t) = Acts (Comes (Err t))

-- the call of `Db` of this number; one that isn't there does nothing
abbrev pub operation : ℕ → Option Statement → List Value → Work
operation number None values = Acts (comes Null)
operation number (Some s) values = operates_on number s (sent values)

-- ---- what is said

-- an answer, or that the call has asked too often
pub data Said : Type 0 where
  Answers : Answer → Said
  Out : Said

abbrev pub counted : {W : Type 0} → Shared W → Shared W
counted s = record s { operations = s.operations + 1 }

-- one question too many isn't asked, nor counted
abbrev pub told : {Q W : Type 0} → Ask Q W → TableOp → There Q W Said
told ask o = λ s. if nat_lt s.operations max_operations then (asked ask o >>= (λ answer. pure (Answers answer))) (counted s) else Gives Out s

-- what is done with an answer
abbrev pub with_said : (Answer → Act) → Said → Act
with_said f (Answers answer) = f answer
with_said f Out = Comes (Err OpsOut)

abbrev pub works : {Q W : Type 0} → Firsts → Ask Q W → Work → (Answer → Act) → There Q W Value
works firsts ask (Acts act) f = does firsts act
works firsts ask (Operates o) f = told ask o >>= (λ said. does firsts (with_said f said))
