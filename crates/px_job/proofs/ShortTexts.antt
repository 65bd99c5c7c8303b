-- The arguments of a job's calls are no references, and their texts are short.
use Rattle.std.proofs.Common.{◌≡◌, ℕ, ◌==◌, ◌<◌, nat_le, Bool, true, false, ◌&&◌, ◌||◌, List, [], ◌∷◌, length, slice_index, slice_get, Option, Some, None, IfSome, Result, Ok, Err, IfOk, if◌then◌else◌, refl, arith}
use Rattle.std.specs.List.{AllByRecursion, list_all, list_any}
use Rattle.std.specs.Option.{is_some, option_map, option_and_then}
use Rattle.std.proofs.lemmas.Bool.{leb-true, leb-false}
use Rattle.px_value.specs.Limits.{max_text}
use Rattle.px_value.specs.declared.ty.Ty.{Ty}
use Rattle.px_value.specs.declared.ty.Ty.TheVariants as types
use Rattle.px_value.specs.declared.value.Value.{Value}
use Rattle.px_value.specs.declared.value.Value.TheVariants as values
use Rattle.px_facts.specs.declared.checked.Entry.{Entry}
use Rattle.px_code.specs.Sound.{IsNoReference}
use Rattle.px_normal.specs.declared.code.Code.{Code}
use Rattle.px_lex.specs.Names.{is_identifier}
use Rattle.px_outside.specs.Numbers.{i64_of}
use Rattle.px_job.specs.Lines.{with_byte, lines_of}
use Rattle.px_job.specs.Words.{place_after, is_between, ended, words_from, words_of}
use Rattle.px_job.specs.Texts.{escaped_byte, step_of, stepped, text_from, text_of}
use Rattle.px_job.specs.Arguments.{is_digits, is_value, is_null, bool_of, int_from, short_text, argument_of, with_argument, arguments_of}
use Rattle.px_job.specs.Numbers.{number, within}
use Rattle.px_job.specs.Places.{place_of}
use Rattle.px_job.specs.Rules.{least_code}
use Rattle.px_job.specs.Rows.{judged_row}
use Rattle.px_job.specs.Parts.{judged_part, judged_side}
use Rattle.px_job.specs.Loads.{judged_load, judged_order}
use Rattle.px_job.specs.Calls.{arguments_for, call_rules, made_call, call_with, call_to, judged_call}
use Rattle.px_job.specs.Verbs.{verb_of}
use Rattle.px_job.specs.Judging.{Against, judged_setting, with_stood, with_row, with_parts, with_call, with_loads, with_order, judged_form, judged_words, has_high_byte, judged}
use Rattle.px_job.specs.Jobs.{noted_from, drafted_from, nothing_yet, finished, against_with, job_of}
use Rattle.px_job.specs.Settings.{nothing_stood, settings_of}
use Rattle.px_job.specs.Short.{HasShortText, HasPlainArguments, TextsAreShort}
use Rattle.px_job.specs.declared.settings.Settings.{Settings}
use Rattle.px_job.specs.declared.settings.Stood.{Stood}
use Rattle.px_job.specs.declared.parts.Parts.{Parts}
use Rattle.px_job.specs.declared.words.Place.{Place}
use Rattle.px_job.specs.declared.words.Place.TheVariants.{Between, Plain, Quoted, Escaped}
use Rattle.px_job.specs.declared.texts.Step.{Step}
use Rattle.px_job.specs.declared.texts.Step.TheVariants.{Byte, Backslash, Close, Broken}
use Rattle.px_job.specs.declared.verbs.Verb.{Verb}
use Rattle.px_job.specs.declared.verbs.Verb.TheVariants as verbs
use Rattle.px_job.specs.declared.draft.Draft.{Draft}
use Rattle.px_job.specs.declared.job.Row.{Row}
use Rattle.px_job.specs.declared.job.Call.{Call}
use Rattle.px_job.specs.declared.job.JobCode.{JobCode}
use Rattle.px_job.specs.declared.job.JobCode.TheVariants.{J1}
use Rattle.px_job.specs.declared.job.JobFault.{JobFault}
use Rattle.px_job.proofs.FittingLines.{all_append}
use Rattle.px_job.proofs.DraftsKept.{unless_keeps, lines_keep}

-- ---- bytes

abbrev AreLow : List ℕ → Type 0
AreLow bytes = AllByRecursion (λ byte. byte < 128) bytes

low_by : (byte : ℕ) (bytes : List ℕ) (high : Bool) → nat_le 128 byte ≡ high → (high || list_any (nat_le 128) bytes) ≡ false → (byte < 128) × (list_any (nat_le 128) bytes ≡ false)
low_by byte bytes true e f = absurd (cc f)
low_by byte bytes false e f = (leb-false 128 byte e, f)

line_low : (line : List ℕ) → has_high_byte line ≡ false → AreLow line
line_low [] e = tt
line_low (byte ∷ line) e = let both = low_by byte line (nat_le 128 byte) refl e in (both.0, line_low line both.1)

-- ---- words

byte_low : (byte : ℕ) (words : List (List ℕ)) → byte < 128 → AllByRecursion AreLow words → AllByRecursion AreLow (with_byte byte words)
byte_low byte [] low all = ((low, tt), tt)
byte_low byte (word ∷ words) low all = ((low, all.0), all.1)

ended_low : (place : Place) (words : List (List ℕ)) → AllByRecursion AreLow words → AllByRecursion AreLow (ended place words)
ended_low Between words all = all
ended_low Plain words all = (tt, all)
ended_low Quoted words all = (tt, all)
ended_low Escaped words all = (tt, all)

words_low : (place : Place) (bytes : List ℕ) → AreLow bytes → AllByRecursion AreLow (words_from place bytes)
words_low place [] low = ended_low place [] tt
words_low place (byte ∷ bytes) low =
    elim (is_between (place_after place byte)) as (λ b. AllByRecursion AreLow (if b then ended place (words_from Between bytes) else with_byte byte (words_from (place_after place byte) bytes))) [
      | true ↦ ended_low place (words_from Between bytes) (words_low Between bytes low.1)
      | false ↦ byte_low byte (words_from (place_after place byte) bytes) low.0 (words_low (place_after place byte) bytes low.1)
    ]

-- ---- texts

abbrev IsLowStep : Step → Type 0
IsLowStep (Byte byte) = byte < 128
IsLowStep _ = Unit {0}

escaped_low : (byte : ℕ) → byte < 128 → IsLowStep (escaped_byte byte)
escaped_low byte low =
    elim (byte == 110) as (λ n. IsLowStep (if n then Byte 10 else if byte == 116 then Byte 9 else if (byte == 34) || (byte == 92) then Byte byte else Broken)) [
      | true ↦ omega arith
      | false ↦ elim (byte == 116) as (λ t. IsLowStep (if t then Byte 9 else if (byte == 34) || (byte == 92) then Byte byte else Broken)) [
        | true ↦ omega arith
        | false ↦ elim ((byte == 34) || (byte == 92)) as (λ s. IsLowStep (if s then Byte byte else Broken)) [ true ↦ low | false ↦ tt ]
      ]
    ]

step_low : (escaped : Bool) (byte : ℕ) → byte < 128 → IsLowStep (step_of escaped byte)
step_low true byte low = escaped_low byte low
step_low false byte low =
    elim (byte == 34) as (λ q. IsLowStep (if q then Close else if byte == 92 then Backslash else Byte byte)) [
      | true ↦ tt
      | false ↦ elim (byte == 92) as (λ b. IsLowStep (if b then Backslash else Byte byte)) [ true ↦ tt | false ↦ low ]
    ]

more_low : (byte : ℕ) (text : Option (List ℕ)) → byte < 128 → IfSome text AreLow → IfSome (option_map (λ more. byte ∷ more) text) AreLow
more_low byte None low p = tt
more_low byte (Some text) low p = (low, p)

stepped_low : (step : Step) (rest : List ℕ) (escaped plain : Option (List ℕ)) → IsLowStep step → IfSome escaped AreLow → IfSome plain AreLow → IfSome (stepped step rest escaped plain) AreLow
stepped_low (Byte byte) rest escaped plain low p q = more_low byte plain low q
stepped_low Backslash rest escaped plain low p q = p
stepped_low Close [] escaped plain low p q = tt
stepped_low Close (byte ∷ rest) escaped plain low p q = tt
stepped_low Broken rest escaped plain low p q = tt

text_from_low : (escaped : Bool) (bytes : List ℕ) → AreLow bytes → IfSome (text_from escaped bytes) AreLow
text_from_low escaped [] low = tt
text_from_low escaped (byte ∷ rest) low = stepped_low (step_of escaped byte) rest (text_from true rest) (text_from false rest) (step_low escaped byte low.0) (text_from_low true rest low.1) (text_from_low false rest low.1)

text_low : (word : List ℕ) → AreLow word → IfSome (text_of word) AreLow
text_low [] low = tt
text_low (byte ∷ rest) low = elim (byte == 34) as (λ q. IfSome (if q then text_from false rest else None) AreLow) [ true ↦ text_from_low false rest low.1 | false ↦ tt ]

-- ---- arguments

abbrev IsArgument : Value → Type 0
IsArgument value = IsNoReference value × HasShortText value

made_plain : {A : Type 0} (make : A → Value) (found : Option A) → ((x : A) → IsArgument (make x)) → IfSome (option_map make found) IsArgument
made_plain make None each = tt
made_plain make (Some x) each = each x

short_by : (text : List ℕ) (fits : Bool) → nat_le (length text) max_text ≡ fits → AreLow text → IfSome (option_map values.Text (if fits then Some text else None)) IsArgument
short_by text true e low = (tt, record { short = leb-true (length text) max_text e; ascii = low })
short_by text false e low = tt

text_plain : (text : Option (List ℕ)) → IfSome text AreLow → IfSome (option_map values.Text (option_and_then short_text text)) IsArgument
text_plain None p = tt
text_plain (Some text) p = short_by text (nat_le (length text) max_text) refl p

argument_plain : (ty : Ty) (word : List ℕ) → AreLow word → IfSome (argument_of ty word) IsArgument
argument_plain types.Int word low = made_plain values.Int (option_and_then int_from (i64_of word)) (λ _. (tt, tt))
argument_plain types.Long word low = made_plain values.Long (i64_of word) (λ _. (tt, tt))
argument_plain types.Bool word low = made_plain values.Bool (bool_of word) (λ _. (tt, tt))
argument_plain types.Text word low = elim (is_null word) as (λ b. IfSome (if b then Some values.Null else option_map values.Text (option_and_then short_text (text_of word))) IsArgument) [ true ↦ (tt, tt) | false ↦ text_plain (text_of word) (text_low word low) ]
argument_plain types.Ref word low = tt

-- each of them, where there are any
record ArePlain (args : List Value) : Type 0 where
  plain : AllByRecursion IsNoReference args
  short : AllByRecursion HasShortText args

more_plain : (first : Option Value) (more : Option (List Value)) → IfSome first IsArgument → IfSome more ArePlain → IfSome (with_argument first more) ArePlain
more_plain None more p q = tt
more_plain (Some value) None p q = tt
more_plain (Some value) (Some values) p q = record { plain = (p.0, q.plain); short = (p.1, q.short) }

arguments_plain : (tys : List Ty) (words : List (List ℕ)) → AllByRecursion AreLow words → IfSome (arguments_of tys words) ArePlain
arguments_plain [] [] low = record { plain = tt; short = tt }
arguments_plain [] (word ∷ words) low = tt
arguments_plain (ty ∷ tys) [] low = tt
arguments_plain (ty ∷ tys) (word ∷ words) low = more_plain (argument_of ty word) (arguments_of tys words) (argument_plain ty word low.0) (arguments_plain tys words low.1)

for_plain : (entry : Option Entry) (words : List (List ℕ)) → AllByRecursion AreLow words → IfSome (arguments_for entry words) ArePlain
for_plain None words low = tt
for_plain (Some entry) words low = arguments_plain entry.params words low

-- ---- calls

made_is_plain : (session place : Option ℕ) (arguments : Option (List Value)) → IfSome arguments ArePlain → HasPlainArguments (made_call session place arguments)
made_is_plain session place None p = record { plain = tt; short = tt }
made_is_plain session place (Some args) p = record { plain = p.plain; short = p.short }

with_plain : (calls : ℕ) (words : List (List ℕ)) (session place : Option ℕ) (entry : Option Entry) (arguments : Option (List Value)) → IfSome arguments ArePlain → IfOk (call_with calls words session place entry arguments) HasPlainArguments
with_plain calls words session place entry arguments p = unless_keeps HasPlainArguments (least_code (call_rules calls words session entry arguments)) (made_call session place arguments) (made_is_plain session place arguments p)

to_plain : (entries : List Entry) (calls : ℕ) (words : List (List ℕ)) (session place : Option ℕ) → AllByRecursion AreLow words → IfOk (call_to entries calls words session place) HasPlainArguments
to_plain entries calls words session place low =
    let entry : Option Entry = option_and_then (slice_get entries) place in
    with_plain calls words session place entry (arguments_for entry words) (for_plain entry words low)

call_plain : (entries : List Entry) (sessions calls : ℕ) (words : List (List ℕ)) → AllByRecursion AreLow words → IfOk (judged_call entries sessions calls words) HasPlainArguments
call_plain entries sessions calls [] low = tt
call_plain entries sessions calls (session ∷ []) low = tt
call_plain entries sessions calls (session ∷ name ∷ words) low =
    elim (is_digits session && is_identifier name && list_all is_value words) as (λ b. IfOk (if b then call_to entries calls words (within 1 sessions (number session)) (place_of name entries) else Err J1) HasPlainArguments) [
      | true ↦ to_plain entries calls words (within 1 sessions (number session)) (place_of name entries) low.1.1
      | false ↦ tt
    ]

-- ---- one line

abbrev AreAllPlain : Draft → Type 0
AreAllPlain draft = AllByRecursion HasPlainArguments draft.calls

module _ (by : Against) (draft : Draft) (h : AllByRecursion HasPlainArguments draft.calls) where
  stood_plain : (meaning : Result Stood JobCode) → IfOk (with_stood draft meaning) AreAllPlain
  stood_plain (Err code) = tt
  stood_plain (Ok s) = h

  row_plain : (meaning : Result Row JobCode) → IfOk (with_row draft meaning) AreAllPlain
  row_plain (Err code) = tt
  row_plain (Ok row) = h

  parts_plain : (meaning : Result Parts JobCode) → IfOk (with_parts draft meaning) AreAllPlain
  parts_plain (Err code) = tt
  parts_plain (Ok parts) = h

  call_more : (meaning : Result Call JobCode) → IfOk meaning HasPlainArguments → IfOk (with_call draft meaning) AreAllPlain
  call_more (Err code) p = tt
  call_more (Ok call) p = all_append HasPlainArguments draft.calls (call ∷ []) h (p, tt)

  loads_plain : (meaning : Result (List (List ℕ)) JobCode) → IfOk (with_loads draft meaning) AreAllPlain
  loads_plain (Err code) = tt
  loads_plain (Ok loads) = h

  order_plain : (meaning : Result (List ℕ) JobCode) → IfOk (with_order draft meaning) AreAllPlain
  order_plain (Err code) = tt
  order_plain (Ok order) = h

  form_plain : (verb : Option Verb) (words : List (List ℕ)) → AllByRecursion AreLow words → IfOk (judged_form by draft verb words) AreAllPlain
  form_plain None words low = tt
  form_plain (Some (verbs.Set setting)) words low = stood_plain (judged_setting draft.stood setting words)
  form_plain (Some verbs.Row) words low = row_plain (judged_row by.tables draft.rows words)
  form_plain (Some verbs.Part) words low = parts_plain (judged_part by.code by.parts draft.parts words)
  form_plain (Some (verbs.Side side)) words low = parts_plain (judged_side by.code draft.parts side words)
  form_plain (Some verbs.Call) words low = call_more (judged_call by.entries by.sessions (length draft.calls) words) (call_plain by.entries by.sessions (length draft.calls) words low)
  form_plain (Some verbs.Load) words low = loads_plain (judged_load by.sessions draft.loads words)
  form_plain (Some verbs.Order) words low = order_plain (judged_order by.sessions (is_some draft.order) words)

  words_plain : (words : List (List ℕ)) → AllByRecursion AreLow words → IfOk (judged_words by draft words) AreAllPlain
  words_plain [] low = h
  words_plain (verb ∷ words) low = elim (slice_index verb 0 == 35) as (λ b. IfOk (if b then Ok draft else judged_form by draft (verb_of verb) words) AreAllPlain) [ true ↦ h | false ↦ form_plain (verb_of verb) words low.1 ]

  line_by : (line : List ℕ) (high : Bool) → has_high_byte line ≡ high → IfOk (if high then Err J1 else judged_words by draft (words_of line)) AreAllPlain
  line_by line true e = tt
  line_by line false e = words_plain (words_of line) (words_low Between line (line_low line e))

line_plain : (by : Against) (draft : Draft) (line : List ℕ) → AreAllPlain draft → IfOk (judged by draft line) AreAllPlain
line_plain by draft line h = line_by by draft h line (has_high_byte line) refl

-- ---- a job

finished_plain : (code : Code) (settings : Settings) (meaning : Result Draft JobFault) → IfOk meaning AreAllPlain → IfOk (finished code settings meaning) (λ job. AllByRecursion HasPlainArguments job.calls)
finished_plain code settings (Err fault) p = tt
finished_plain code settings (Ok draft) p = p

pub texts_are_short : TextsAreShort
unfolding job_of
texts_are_short P schema code bytes =
    let lines : List (List ℕ) = lines_of bytes in
    let settings : Settings = settings_of (noted_from nothing_stood lines) in
    let by : Against = against_with P.facts.main.entries schema.tables code settings lines in
    finished_plain code settings (drafted_from by 1 (nothing_yet settings.sessions) lines) (lines_keep by AreAllPlain (line_plain by) 1 (nothing_yet settings.sessions) lines tt)
