-- What the job of a file keeps.
use Rattle.std.specs.Prelude.{◌≡◌, ℕ, ◌+◌, ◌≤◌, ◌<◌, ◌^◌, nat_lt, nat_le, ℤ, pos, negsuc, Bool, true, false, List, [], ◌∷◌, ◌++◌, length, slice_get, Option, Some, None, IfSome, IfOk}
use Rattle.std.specs.List.{AllByRecursion}
use Rattle.std.specs.Option.{is_some}
use Rattle.px_value.specs.declared.ty.Ty.{Ty}
use Rattle.px_value.specs.declared.ty.Ty.TheVariants as types
use Rattle.px_value.specs.declared.schema.Schema.{Schema}
use Rattle.px_value.specs.declared.schema.Table.{Table}
use Rattle.px_value.specs.declared.schema.Column.{Column}
use Rattle.px_value.specs.declared.schema.ColumnType.{ColumnType}
use Rattle.px_value.specs.declared.schema.ColumnType.TheVariants as columns
use Rattle.px_value.specs.declared.value.Value.{Value}
use Rattle.px_value.specs.declared.value.Value.TheVariants as values
use Rattle.px_facts.specs.declared.checked.Checked.{Checked}
use Rattle.px_facts.specs.declared.checked.Entry.{Entry}
use Rattle.px_code.specs.declared.side.Side.{Side}
use Rattle.px_code.specs.declared.side.Side.TheVariants.{App}
use Rattle.px_normal.specs.declared.code.Code.{Code}
use Rattle.px_value.specs.Limits.{max_text, max_parameter}
use Rattle.px_job.specs.Settings.{in_range}
use Rattle.px_job.specs.Rows.{key_stands, max_rows}
use Rattle.px_job.specs.Calls.{max_calls}
use Rattle.px_job.specs.Prints.{prints_of, is_print}
use Rattle.px_job.specs.Parts.{full, max_budget, max_parts, repeats_name}
use Rattle.px_job.specs.Loads.{full_load, max_readings, max_order}
use Rattle.px_job.specs.Jobs.{job_of}
use Rattle.px_job.specs.declared.settings.Settings.{Settings}
use Rattle.px_job.specs.declared.settings.Setting.TheVariants.{Sessions, Workers, Retries, Alpha, Latency, PerByte, Profile}
use Rattle.px_job.specs.declared.job.Row.{Row}
use Rattle.px_job.specs.declared.job.Part.{Part}
use Rattle.px_job.specs.declared.job.Call.{Call}
use Rattle.px_job.specs.declared.job.Job.{Job}

-- a number of so many bits and a sign
abbrev pub has_bits : ℕ → ℤ → Bool
has_bits bits (pos n) = nat_lt n (2 ^ bits)
has_bits bits (negsuc n) = nat_lt n (2 ^ bits)

-- an argument has its parameter's type, and is in its range
abbrev pub has_type : Ty → Value → Bool
has_type types.Int (values.Int number) = has_bits 31 number
has_type types.Long (values.Long number) = has_bits 63 number
has_type types.Bool (values.Bool holds) = true
has_type types.Text (values.Text text) = nat_le (length text) max_text
has_type types.Text values.Null = true
has_type _ _ = false

abbrev pub HaveTypes : List Ty → List Value → Type 0
HaveTypes [] [] = Unit {0}
HaveTypes (ty ∷ types) (value ∷ values) = (has_type ty value ≡ true) × HaveTypes types values
HaveTypes _ _ = ⊥

-- a value has its column's type, and is in its range
abbrev pub fits_column : ColumnType → Value → Bool
fits_column columns.Long (values.Long number) = has_bits 63 number
fits_column columns.Text (values.Text text) = nat_le (length text) max_parameter
fits_column _ _ = false

abbrev pub FitColumns : List Column → List Value → Type 0
FitColumns [] [] = Unit {0}
FitColumns (column ∷ columns) (value ∷ values) = (fits_column column.ty value ≡ true) × FitColumns columns values
FitColumns _ _ = ⊥

-- each setting is in its range
pub record AreInRange (settings : Settings) : Type 0 where
  pub sessions : in_range Sessions settings.sessions ≡ true
  pub workers : in_range Workers settings.workers ≡ true
  pub retries : in_range Retries settings.retries ≡ true
  pub alpha : in_range Alpha settings.alpha ≡ true
  pub latency : in_range Latency settings.latency ≡ true
  pub per_byte : in_range PerByte settings.per_byte ≡ true
  pub profile : in_range Profile settings.profile ≡ true

-- the row is of a table that there is, with one value for each of its columns
pub record IsRowOf (tables : List Table) (row : Row) : Type 0 where
  pub table : Table
  pub found : slice_get tables row.table ≡ Some table
  pub values : FitColumns table.columns row.values

-- no row of the same table before has the key of one, behind these
abbrev pub HaveNewKeys : List Row → List Row → Type 0
HaveNewKeys before [] = Unit {0}
HaveNewKeys before (row ∷ rows) = (key_stands before row.table row.values ≡ false) × HaveNewKeys (before ++ row ∷ []) rows

-- the session is one of so many
abbrev pub IsSession : ℕ → ℕ → Type 0
IsSession sessions session = (1 ≤ session) × (session ≤ sessions)

-- the call is of a session and an entry that there are, with one argument for each parameter
pub record IsCallOf (entries : List Entry) (sessions : ℕ) (call : Call) : Type 0 where
  pub session : IsSession sessions call.session
  pub entry : Entry
  pub found : slice_get entries call.entry ≡ Some entry
  pub arguments : HaveTypes entry.params call.args

-- a session's readings are loads, and not too many
abbrev pub AreReadings : List ℕ → Type 0
AreReadings readings = (length readings ≤ max_readings) × AllByRecursion (λ reading. reading ≤ full_load) readings

-- a side is set
abbrev pub IsSet : Option Side → Type 0
IsSet side = is_some side ≡ true

-- the nodes that are prints are at APP
abbrev pub PrintsStay : Code → List (Option Side) → Type 0
PrintsStay code sides = (place : ℕ) → place < length code.nodes → is_print (prints_of code) (place + 1) ≡ true → slice_get sides place ≡ Some (Some App)

-- the part's numbers are in their ranges, and it has an entry for each node: a side where there is no budget, and APP for a print
pub record IsPartOf (code : Code) (part : Part) : Type 0 where
  pub upto : part.upto ≤ full
  pub budget : IfSome part.budget (λ most. most ≤ max_budget)
  pub nodes : length part.sides.sides ≡ length code.nodes
  pub sides : part.budget ≡ None → AllByRecursion IsSet part.sides.sides
  pub prints : PrintsStay code part.sides.sides

-- no part before has the name of one, behind these
abbrev pub HaveNewNames : List Part → List Part → Type 0
HaveNewNames before [] = Unit {0}
HaveNewNames before (part ∷ parts) = (repeats_name before part.name ≡ false) × HaveNewNames (before ++ part ∷ []) parts

-- each part serves up to more than the one before
abbrev pub Rise : List Part → Type 0
Rise [] = Unit {0}
Rise (part ∷ []) = Unit {0}
Rise (part ∷ next ∷ parts) = (part.upto < next.upto) × Rise (next ∷ parts)

-- there is a last part, which serves up to the full load
abbrev pub EndFull : List Part → Type 0
EndFull [] = ⊥
EndFull (part ∷ []) = part.upto ≡ full
EndFull (part ∷ next ∷ parts) = EndFull (next ∷ parts)

pub record Fits (entries : List Entry) (tables : List Table) (code : Code) (job : Job) : Type 0 where
  pub settings : AreInRange job.settings
  pub rows : AllByRecursion (IsRowOf tables) job.rows
  pub keys : HaveNewKeys [] job.rows
  pub row_count : length job.rows ≤ max_rows
  pub parts : AllByRecursion (IsPartOf code) job.parts
  pub names : HaveNewNames [] job.parts
  pub rise : Rise job.parts
  pub full : EndFull job.parts
  pub part_count : length job.parts ≤ max_parts
  pub calls : AllByRecursion (IsCallOf entries job.settings.sessions) job.calls
  pub call_count : length job.calls ≤ max_calls
  pub sessions : length job.loads ≡ job.settings.sessions
  pub loads : AllByRecursion AreReadings job.loads
  pub order : AllByRecursion (IsSession job.settings.sessions) job.order
  pub order_count : length job.order ≤ max_order

abbrev pub JobsFit : Type 0
JobsFit = (P : Checked) (schema : Schema) (code : Code) (bytes : List ℕ) → IfOk (job_of P schema code bytes) (λ job. Fits P.facts.main.entries schema.tables code job)
