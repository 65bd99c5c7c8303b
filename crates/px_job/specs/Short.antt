-- What the arguments of a job's calls keep besides their types.
use Rattle.std.specs.Prelude.{ℕ, ◌≤◌, ◌<◌, List, length, IfOk}
use Rattle.std.specs.List.{AllByRecursion}
use Rattle.px_value.specs.declared.schema.Schema.{Schema}
use Rattle.px_value.specs.declared.value.Value.{Value}
use Rattle.px_value.specs.declared.value.Value.TheVariants.{Text}
use Rattle.px_value.specs.Limits.{max_text}
use Rattle.px_facts.specs.declared.checked.Checked.{Checked}
use Rattle.px_code.specs.Sound.{IsNoReference}
use Rattle.px_normal.specs.declared.code.Code.{Code}
use Rattle.px_job.specs.Jobs.{job_of}
use Rattle.px_job.specs.declared.job.Call.{Call}

-- a text within its limit, of ASCII
pub record IsShortAscii (text : List ℕ) : Type 0 where
  pub short : length text ≤ max_text
  pub ascii : AllByRecursion (λ byte. byte < 128) text

-- the value's text, if it has one, is short
abbrev pub HasShortText : Value → Type 0
HasShortText (Text text) = IsShortAscii text
HasShortText _ = Unit {0}

-- arguments that a message can hold: no references, and short texts
pub record HasPlainArguments (call : Call) : Type 0 where
  pub plain : AllByRecursion IsNoReference call.args
  pub short : AllByRecursion HasShortText call.args

-- the arguments of a job's calls are so
abbrev pub TextsAreShort : Type 0
TextsAreShort = (P : Checked) (schema : Schema) (code : Code) (bytes : List ℕ) → IfOk (job_of P schema code bytes) (λ job. AllByRecursion HasPlainArguments job.calls)
