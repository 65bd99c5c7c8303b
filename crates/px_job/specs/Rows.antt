-- What a line makes that begins with `row`.
use Rattle.std.specs.Prelude.{ℕ, ◌==◌, ◌^◌, nat_lt, nat_le, ℤ, Bool, false, not, ◌&&◌, List, [], ◌∷◌, length, position, slice_get, unwrap_or, Option, Some, None, Result, Err, if◌then◌else◌}
use Rattle.std.specs.Option.{option_and_then}
use Rattle.std.specs.List.{list_any, list_all}
use Rattle.std.specs.Ordering.{int_eq}
use Rattle.std.specs.Str.{bytes_eq}
use Rattle.px_value.specs.declared.schema.Table.{Table}
use Rattle.px_value.specs.declared.value.Value.{Value}
use Rattle.px_value.specs.declared.value.Value.TheVariants as values
use Rattle.px_lex.specs.Names.{is_identifier}
use Rattle.px_job.specs.Arguments.{is_value}
use Rattle.px_job.specs.Cells.{cells_of}
use Rattle.px_job.specs.Rules.{Rule, least_code, is_absent, unless}
use Rattle.px_job.specs.declared.job.Row.{Row}
use Rattle.px_job.specs.declared.job.JobCode.{JobCode}
use Rattle.px_job.specs.declared.job.JobCode.TheVariants.{J1, J6, J7, J8, J9, J19}

-- the most rows of a job
abbrev pub max_rows : ℕ
max_rows = 100000

-- the place of the first table of a name
unfoldable pub table_of : List ℕ → List Table → Option ℕ
table_of name tables = position (λ table. bytes_eq table.name name) tables

-- a table's number, where 16 bits hold it
abbrev pub short_place : ℕ → Option ℕ
short_place place = if nat_lt place (2 ^ 16) then Some place else None

-- the first of a row's values is its key
abbrev pub is_number : List Value → ℤ → Bool
is_number (values.Long own ∷ _) number = int_eq own number
is_number _ number = false

abbrev pub is_text : List Value → List ℕ → Bool
is_text (values.Text own ∷ _) text = bytes_eq own text
is_text _ text = false

-- a row of the table has the number as its key
abbrev pub number_stands : List Row → ℕ → ℤ → Bool
number_stands rows table number = list_any (λ row. (row.table == table) && is_number row.values number) rows

abbrev pub text_stands : List Row → ℕ → List ℕ → Bool
text_stands rows table text = list_any (λ row. (row.table == table) && is_text row.values text) rows

-- a row of the table has the key of the values
abbrev pub key_stands : List Row → ℕ → List Value → Bool
key_stands rows table (values.Long number ∷ _) = number_stands rows table number
key_stands rows table (values.Text text ∷ _) = text_stands rows table text
key_stands rows table _ = false

-- ---- the rules of a row

-- the place of the table of a name
abbrev pub place_named : List Table → List ℕ → Option ℕ
place_named tables name = option_and_then short_place (table_of name tables)

-- the words aren't as many as the columns
abbrev pub has_wrong_count : Option Table → List (List ℕ) → Bool
has_wrong_count None words = false
has_wrong_count (Some table) words = not (length words == length table.columns)

-- the values of the columns that the words stand for
abbrev pub values_for : Option Table → List (List ℕ) → Option (List Value)
values_for None words = None
values_for (Some table) words = cells_of table.columns words

-- a row before is of the same table and has the same key
abbrev pub repeats_key : List Row → Row → Bool
repeats_key rows row = key_stands rows row.table row.values

-- so many stand before that there is no room for one more
abbrev pub is_row_too_many : List Row → Bool
is_row_too_many rows = nat_le max_rows (length rows)

abbrev pub row_rules : List Row → List (List ℕ) → Option Table → Option (List Value) → Row → List Rule
row_rules rows words table values row =
    (is_absent table, J6)
    ∷ (has_wrong_count table words, J7)
    ∷ (is_absent values, J8)
    ∷ (repeats_key rows row, J9)
    ∷ (is_row_too_many rows, J19)
    ∷ []

-- the row of the table at a place and of these values, where there are both
abbrev pub made_row : Option ℕ → Option (List Value) → Row
made_row place values = record { table = unwrap_or place 0; values = unwrap_or values [] }

abbrev pub row_with : List Row → List (List ℕ) → Option ℕ → Option Table → Option (List Value) → Result Row JobCode
row_with rows words place table values = unless (least_code (row_rules rows words table values (made_row place values))) (made_row place values)

abbrev pub row_at : List Row → List (List ℕ) → Option ℕ → Option Table → Result Row JobCode
row_at rows words place table = row_with rows words place table (values_for table words)

abbrev pub row_in : List Table → List Row → List (List ℕ) → Option ℕ → Result Row JobCode
row_in tables rows words place = row_at rows words place (option_and_then (slice_get tables) place)

-- the words behind `row`: a table and its values
abbrev pub judged_row : List Table → List Row → List (List ℕ) → Result Row JobCode
judged_row tables rows (name ∷ word ∷ words) = if is_identifier name && list_all is_value (word ∷ words) then row_in tables rows (word ∷ words) (place_named tables name) else Err J1
judged_row tables rows _ = Err J1
