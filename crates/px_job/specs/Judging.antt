-- What one line makes.
use Rattle.std.specs.Prelude.{◌≡◌, ℕ, ◌==◌, ◌+◌, nat_le, Bool, true, false, not, ◌&&◌, List, [], ◌∷◌, ◌++◌, length, slice_index, Option, Some, None, Result, Ok, Err, if◌then◌else◌}
use Rattle.std.specs.List.{list_any}
use Rattle.std.specs.Option.{is_some}
use denote.Ref.{Bor}
use Rattle.px_value.specs.declared.schema.Table.{Table}
use Rattle.px_normal.specs.declared.code.Code.{Code}
use Rattle.px_facts.specs.declared.checked.Entry.{Entry}
use Rattle.px_job.specs.Words.{words_of}
use Rattle.px_job.specs.Arguments.{is_digits}
use Rattle.px_job.specs.Numbers.{number}
use Rattle.px_job.specs.Rules.{Rule, least_code, unless}
use Rattle.px_job.specs.Settings.{in_range, stood, stood_with}
use Rattle.px_job.specs.Verbs.{verb_of, setting_of}
use Rattle.px_job.specs.Rows.{judged_row}
use Rattle.px_job.specs.Calls.{judged_call}
use Rattle.px_job.specs.Parts.{is_part, judged_part, judged_side}
use Rattle.px_job.specs.Loads.{judged_load, judged_order}
use Rattle.px_job.specs.declared.settings.Setting.{Setting}
use Rattle.px_job.specs.declared.settings.Stood.{Stood}
use Rattle.px_job.specs.declared.verbs.Verb.{Verb}
use Rattle.px_job.specs.declared.verbs.Verb.TheVariants as verbs
use Rattle.px_job.specs.declared.draft.Draft.{Draft}
use Rattle.px_job.specs.declared.parts.Parts.{Parts}
use Rattle.px_job.specs.declared.job.Row.{Row}
use Rattle.px_job.specs.declared.job.Call.{Call}
use Rattle.px_job.specs.declared.job.JobCode.{JobCode}
use Rattle.px_job.specs.declared.job.JobCode.TheVariants.{J1, J3, J4}
use Rattle.px_job.specs.declared.judge.Refusal.{Refusal}
use Rattle.px_job.specs.declared.judge.Refusal.TheVariants.{Breaks, NoMemory}

-- In each of the forms, here and in their files, the tests stand in the order of the codes, so that a line has its smallest.

-- a line of the setting's form has stood
abbrev pub repeats_setting : Stood → Setting → Bool
repeats_setting s setting = is_some (stood s setting)

abbrev pub is_outside : Setting → ℕ → Bool
is_outside setting n = not (in_range setting n)

abbrev pub setting_rules : Stood → Setting → ℕ → List Rule
setting_rules s setting n = (repeats_setting s setting, J3) ∷ (is_outside setting n, J4) ∷ []

-- the words behind a setting's name: a number
abbrev pub judged_setting : Stood → Setting → List (List ℕ) → Result Stood JobCode
judged_setting s setting (word ∷ []) = if is_digits word then unless (least_code (setting_rules s setting (number word))) (stood_with s setting (number word)) else Err J1
judged_setting s setting _ = Err J1

-- the draft with what a line made
abbrev pub with_stood : Draft → Result Stood JobCode → Result Draft JobCode
with_stood draft (Err code) = Err code
with_stood draft (Ok s) = Ok (record draft { stood = s })

abbrev pub with_row : Draft → Result Row JobCode → Result Draft JobCode
with_row draft (Err code) = Err code
with_row draft (Ok row) = Ok (record draft { rows = draft.rows ++ row ∷ [] })

abbrev pub with_parts : Draft → Result Parts JobCode → Result Draft JobCode
with_parts draft (Err code) = Err code
with_parts draft (Ok parts) = Ok (record draft { parts = parts })

abbrev pub with_call : Draft → Result Call JobCode → Result Draft JobCode
with_call draft (Err code) = Err code
with_call draft (Ok call) = Ok (record draft { calls = draft.calls ++ call ∷ [] })

abbrev pub with_loads : Draft → Result (List (List ℕ)) JobCode → Result Draft JobCode
with_loads draft (Err code) = Err code
with_loads draft (Ok loads) = Ok (record draft { loads = loads })

abbrev pub with_order : Draft → Result (List ℕ) JobCode → Result Draft JobCode
with_order draft (Err code) = Err code
with_order draft (Ok order) = Ok (record draft { order = Some order })

-- What a line is judged by: the entries, the tables and the code of the program, and what the whole file tells.
pub record Against : Type 0 where
  pub entries : List Entry
  pub tables : List Table
  pub code : Code
  pub sessions : ℕ
  -- how many parts the file has
  pub parts : ℕ

-- the words behind the first
abbrev pub judged_form : Against → Draft → Option Verb → List (List ℕ) → Result Draft JobCode
judged_form by draft None words = Err J1
judged_form by draft (Some (verbs.Set setting)) words = with_stood draft (judged_setting draft.stood setting words)
judged_form by draft (Some verbs.Row) words = with_row draft (judged_row by.tables draft.rows words)
judged_form by draft (Some verbs.Part) words = with_parts draft (judged_part by.code by.parts draft.parts words)
judged_form by draft (Some (verbs.Side side)) words = with_parts draft (judged_side by.code draft.parts side words)
judged_form by draft (Some verbs.Call) words = with_call draft (judged_call by.entries by.sessions (length draft.calls) words)
judged_form by draft (Some verbs.Load) words = with_loads draft (judged_load by.sessions draft.loads words)
judged_form by draft (Some verbs.Order) words = with_order draft (judged_order by.sessions (is_some draft.order) words)

-- the words of a line: none, or a comment, make nothing
abbrev pub judged_words : Against → Draft → List (List ℕ) → Result Draft JobCode
judged_words by draft [] = Ok draft
judged_words by draft (verb ∷ words) = if slice_index verb 0 == 35 then Ok draft else judged_form by draft (verb_of verb) words

abbrev pub has_high_byte : List ℕ → Bool
has_high_byte line = list_any (nat_le 128) line

-- the draft that a line makes of what the lines before it made, or the smallest code of a rule that it breaks
abbrev pub judged : Against → Draft → List ℕ → Result Draft JobCode
judged by draft line = if has_high_byte line then Err J1 else judged_words by draft (words_of line)

-- A setting holds for the whole file: the number on the first line that has its form, whatever else stands in the file.
abbrev pub first_stood : Stood → Setting → Bool → ℕ → Option ℕ → Stood
first_stood s setting true n None = stood_with s setting n
first_stood s setting _ n _ = s

abbrev pub noted_by : Stood → Option Setting → List (List ℕ) → Stood
noted_by s (Some setting) (word ∷ []) = first_stood s setting (is_digits word) (number word) (stood s setting)
noted_by s _ _ = s

abbrev pub noted_words : Stood → List (List ℕ) → Stood
noted_words s [] = s
noted_words s (verb ∷ words) = noted_by s (setting_of verb) words

abbrev pub noted : Stood → List ℕ → Stood
noted s line = if has_high_byte line then s else noted_words s (words_of line)

-- a line of the form of a part
abbrev pub are_part : Option Verb → List (List ℕ) → Bool
are_part (Some verbs.Part) words = is_part words
are_part _ words = false

abbrev pub is_part_line : List (List ℕ) → Bool
is_part_line [] = false
is_part_line (verb ∷ words) = not (slice_index verb 0 == 35) && are_part (verb_of verb) words

-- how many lines have it
abbrev pub parts_in : List (List ℕ) → ℕ
parts_in [] = 0
parts_in (line ∷ lines) = if not (has_high_byte line) && is_part_line (words_of line) then 1 + parts_in lines else parts_in lines

-- it is the only word
abbrev pub IsOnly : Option (Bor (List ℕ)) → List (List ℕ) → Type 0
IsOnly (Some word) words = words ≡ word.now ∷ []
IsOnly None [] = Unit {0}
IsOnly None (word ∷ []) = ⊥
IsOnly None (word ∷ other ∷ words) = Unit {0}

-- What was answered is what the line makes, unless memory ran out.
abbrev pub Judges : {A : Type 0} → Result A Refusal → Result A JobCode → Type 0
Judges (Ok answer) meaning = meaning ≡ Ok answer
Judges (Err (Breaks code)) meaning = meaning ≡ Err code
Judges (Err NoMemory) meaning = Unit {0}

-- The same of what was made in place.
abbrev pub Makes : {A : Type 0} → Result (Unit {0}) Refusal → A → Result A JobCode → Type 0
Makes (Ok _) made meaning = meaning ≡ Ok made
Makes (Err (Breaks code)) made meaning = meaning ≡ Err code
Makes (Err NoMemory) made meaning = Unit {0}
