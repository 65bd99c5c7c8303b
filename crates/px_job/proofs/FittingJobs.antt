-- What the job of a file keeps.
use Rattle.std.proofs.Common.{◌≡◌, ℕ, zero, suc, ◌+◌, ◌≤◌, ◌<◌, ◌==◌, Bool, true, false, not, ◌&&◌, List, [], ◌∷◌, ◌++◌, length, replicate, slice_index, Option, Some, None, unwrap_or, Result, Ok, Err, IfOk, if◌then◌else◌, refl, sym, ap, ◌∙◌, subst, arith}
use Rattle.std.specs.List.{AllByRecursion}
use Rattle.std.specs.Option.{is_some, option_map}
use Rattle.std.proofs.lemmas.List.{length-append, length-replicate}
use Rattle.px_value.specs.declared.schema.Table.{Table}
use Rattle.px_facts.specs.declared.checked.Entry.{Entry}
use Rattle.px_job.specs.Lines.{lines_of}
use Rattle.px_job.specs.Words.{words_of}
use Rattle.px_job.specs.Settings.{in_range, nothing_stood, stood, set_or, settings_of}
use Rattle.px_job.specs.Verbs.{verb_of}
use Rattle.px_job.specs.Rows.{max_rows, judged_row}
use Rattle.px_job.specs.Calls.{max_calls, judged_call}
use Rattle.px_code.specs.declared.side.Side.{Side}
use Rattle.px_normal.specs.declared.code.Code.{Code}
use Rattle.px_lex.specs.Names.{is_identifier}
use Rattle.px_job.specs.Rules.{least_code, is_absent, unless}
use Rattle.px_job.specs.Prints.{prints_of}
use Rattle.px_job.specs.Selecting.{is_selector, selected}
use Rattle.px_job.specs.Parts.{bounds_of, is_part, begun, last_of, new_part, repeats_name, is_out_of_range, is_not_above, ends_low, is_part_too_many, with_part, part_by, judged_part, placed, places_print, side_of, judged_side}
use Rattle.px_job.specs.Loads.{max_order, judged_load, judged_order}
use Rattle.px_job.specs.Judging.{Against, judged_setting, with_stood, with_row, with_parts, with_call, with_loads, with_order, judged_form, judged_words, has_high_byte, judged, are_part, is_part_line, parts_in}
use Rattle.px_job.specs.Jobs.{noted_from, joined, drafted_from, nothing_yet, finished, against_with, job_under, job_of}
use Rattle.px_job.specs.Fitting.{AreInRange, IsRowOf, HaveNewKeys, IsSession, IsCallOf, AreReadings, Fits, JobsFit}
use Rattle.px_job.specs.declared.settings.Settings.{Settings}
use Rattle.px_job.specs.declared.settings.Stood.{Stood}
use Rattle.px_job.specs.declared.settings.Setting.{Setting}
use Rattle.px_job.specs.declared.settings.Setting.TheVariants.{Sessions, Workers, Retries, Alpha, Latency, PerByte, Profile}
use Rattle.px_job.specs.declared.verbs.Verb.{Verb}
use Rattle.px_job.specs.declared.verbs.Verb.TheVariants as verbs
use Rattle.px_job.specs.declared.draft.Draft.{Draft}
use Rattle.px_job.specs.declared.parts.Bounds.{Bounds}
use Rattle.px_job.specs.declared.parts.Parts.{Parts}
use Rattle.px_job.specs.declared.job.Part.{Part}
use Rattle.px_job.specs.declared.job.Row.{Row}
use Rattle.px_job.specs.declared.job.Call.{Call}
use Rattle.px_job.specs.declared.job.JobCode.{JobCode}
use Rattle.px_job.specs.declared.job.JobCode.TheVariants.{J1, J3, J4, J13, J14, J15, J16, J17, J20}
use Rattle.px_job.specs.declared.job.JobFault.{JobFault}
use Rattle.px_job.proofs.FittingLines.{all_append, new_keys_more, RowFits, CallFits, LoadsFit, OrderFits, row_fits, call_fits, loads_fit, order_fits}
use Rattle.px_job.proofs.FittingParts.{PartsHold, PartsFit, none_hold, placed_hold, part_holds, parts_fit}

-- ---- settings

set_by : (setting : Setting) (default n : ℕ) (fits : Bool) → in_range setting default ≡ true → in_range setting n ≡ fits → in_range setting (if fits then n else default) ≡ true
set_by setting default n true d e = e
set_by setting default n false d e = d

set_fits : (setting : Setting) (default : ℕ) (found : Option ℕ) → in_range setting default ≡ true → in_range setting (set_or setting default found) ≡ true
set_fits setting default None d = d
set_fits setting default (Some n) d = set_by setting default n (in_range setting n) d refl

settings_fit : (s : Stood) → AreInRange (settings_of s)
settings_fit s =
    record {
      sessions = set_fits Sessions 1 (stood s Sessions) refl;
      workers = set_fits Workers 1 (stood s Workers) refl;
      retries = set_fits Retries 3 (stood s Retries) refl;
      alpha = set_fits Alpha 200 (stood s Alpha) refl;
      latency = set_fits Latency 1000 (stood s Latency) refl;
      per_byte = set_fits PerByte 1 (stood s PerByte) refl;
      profile = set_fits Profile 50 (stood s Profile) refl;
    }

-- ---- drafts

record Holds (by : Against) (draft : Draft) : Type 0 where
  rows : AllByRecursion (IsRowOf by.tables) draft.rows
  keys : HaveNewKeys [] draft.rows
  row_count : length draft.rows ≤ max_rows
  parts : PartsHold by.code by.parts draft.parts.before draft.parts.last
  calls : AllByRecursion (IsCallOf by.entries by.sessions) draft.calls
  call_count : length draft.calls ≤ max_calls
  sessions : length draft.loads ≡ by.sessions
  loads : AllByRecursion AreReadings draft.loads
  order : AllByRecursion (IsSession by.sessions) (unwrap_or draft.order [])
  order_count : length (unwrap_or draft.order []) ≤ max_order

-- a part has begun, or none
abbrev Counts : Bool → ℕ → ℕ → Type 0
Counts true before after = after ≡ before + 1
Counts false before after = after ≡ before

abbrev Kept : {E : Type 0} → Against → Draft → Bool → Result Draft E → Type 0
Kept by draft counts meaning = IfOk meaning (λ next. Holds by next × Counts counts (length (begun draft.parts)) (length (begun next.parts)))

none_read : (n : ℕ) → AllByRecursion AreReadings (replicate n [])
none_read zero = tt
none_read (suc n) = ((omega arith, tt), none_read n)

one_more : {A : Type 0} (xs : List A) (x : A) (most : ℕ) → length xs < most → length (xs ++ x ∷ []) ≤ most
one_more xs x most h = omega (arith, h, length-append xs (x ∷ []))

nothing_holds : (by : Against) → Holds by (nothing_yet by.sessions)
nothing_holds by =
    record {
      rows = tt;
      keys = tt;
      row_count = omega arith;
      parts = none_hold by.code by.parts;
      calls = tt;
      call_count = omega arith;
      sessions = length-replicate by.sessions [];
      loads = none_read by.sessions;
      order = tt;
      order_count = omega arith;
    }

module _ (by : Against) (draft : Draft) (h : Holds by draft) where
  stood_kept : (meaning : Result Stood JobCode) → Kept by draft false (with_stood draft meaning)
  stood_kept (Err code) = tt
  stood_kept (Ok s) = (record { rows = h.rows; keys = h.keys; row_count = h.row_count; parts = h.parts; calls = h.calls; call_count = h.call_count; sessions = h.sessions; loads = h.loads; order = h.order; order_count = h.order_count }, refl)

  row_kept : (meaning : Result Row JobCode) → RowFits by.tables draft.rows meaning → Kept by draft false (with_row draft meaning)
  row_kept (Err code) p = tt
  row_kept (Ok row) p = (record { rows = all_append (IsRowOf by.tables) draft.rows (row ∷ []) h.rows (p.0, tt); keys = new_keys_more [] draft.rows row h.keys p.1; row_count = one_more draft.rows row max_rows p.2; parts = h.parts; calls = h.calls; call_count = h.call_count; sessions = h.sessions; loads = h.loads; order = h.order; order_count = h.order_count }, refl)

  call_kept : (meaning : Result Call JobCode) → CallFits by.entries by.sessions (length draft.calls) meaning → Kept by draft false (with_call draft meaning)
  call_kept (Err code) p = tt
  call_kept (Ok call) p = (record { rows = h.rows; keys = h.keys; row_count = h.row_count; parts = h.parts; calls = all_append (IsCallOf by.entries by.sessions) draft.calls (call ∷ []) h.calls (p.0, tt); call_count = one_more draft.calls call max_calls p.1; sessions = h.sessions; loads = h.loads; order = h.order; order_count = h.order_count }, refl)

  loads_kept : (meaning : Result (List (List ℕ)) JobCode) → LoadsFit draft.loads meaning → Kept by draft false (with_loads draft meaning)
  loads_kept (Err code) p = tt
  loads_kept (Ok loads) p = (record { rows = h.rows; keys = h.keys; row_count = h.row_count; parts = h.parts; calls = h.calls; call_count = h.call_count; sessions = p.0 ∙ h.sessions; loads = p.1; order = h.order; order_count = h.order_count }, refl)

  order_kept : (meaning : Result (List ℕ) JobCode) → OrderFits by.sessions meaning → Kept by draft false (with_order draft meaning)
  order_kept (Err code) p = tt
  order_kept (Ok order) p = (record { rows = h.rows; keys = h.keys; row_count = h.row_count; parts = h.parts; calls = h.calls; call_count = h.call_count; sessions = h.sessions; loads = h.loads; order = p.0; order_count = p.1 }, refl)

  -- ---- parts

  parts_kept : (parts : Parts) → PartsHold by.code by.parts parts.before parts.last → Holds by (record draft { parts = parts })
  parts_kept parts p = record { rows = h.rows; keys = h.keys; row_count = h.row_count; parts = p; calls = h.calls; call_count = h.call_count; sessions = h.sessions; loads = h.loads; order = h.order; order_count = h.order_count }

  rules_kept : (name : List ℕ) (bounds : Bounds) (a b c d e : Bool) → repeats_name (begun draft.parts) name ≡ a → is_out_of_range bounds ≡ b → is_not_above draft.parts.last bounds.upto ≡ c → ends_low (length (begun draft.parts)) by.parts bounds.upto ≡ d → is_part_too_many (length (begun draft.parts)) ≡ e → Kept by draft true (with_parts draft (unless (least_code ((a, J3) ∷ (b, J4) ∷ (c, J16) ∷ (d, J17) ∷ (e, J20) ∷ [])) (with_part draft.parts (new_part by.code name bounds))))
  rules_kept name bounds true b c d e p q r s t = tt
  rules_kept name bounds false true c d e p q r s t = tt
  rules_kept name bounds false false true d e p q r s t = tt
  rules_kept name bounds false false false true e p q r s t = tt
  rules_kept name bounds false false false false true p q r s t = tt
  rules_kept name bounds false false false false false p q r s t =
      (parts_kept (with_part draft.parts (new_part by.code name bounds)) (part_holds by.code by.parts draft.parts.before draft.parts.last name bounds p q r s t h.parts), length-append (begun draft.parts) (new_part by.code name bounds ∷ []))

  by_kept : (name : List ℕ) (bounds : Option Bounds) → Kept by draft (is_some bounds) (with_parts draft (part_by by.code by.parts draft.parts name bounds))
  by_kept name None = tt
  by_kept name (Some bounds) = rules_kept name bounds (repeats_name (begun draft.parts) name) (is_out_of_range bounds) (is_not_above draft.parts.last bounds.upto) (ends_low (length (begun draft.parts)) by.parts bounds.upto) (is_part_too_many (length (begun draft.parts))) refl refl refl refl refl

  part_kept : (words : List (List ℕ)) → Kept by draft (is_part words) (with_parts draft (judged_part by.code by.parts draft.parts words))
  part_kept [] = tt
  part_kept (name ∷ words) = elim (is_identifier name) as (λ b. Kept by draft (b && is_some (bounds_of words)) (with_parts draft (if b then part_by by.code by.parts draft.parts name (bounds_of words) else Err J1))) [ true ↦ by_kept name (bounds_of words) | false ↦ tt ]

  -- ---- sides

  same_count : (last part : Part) → draft.parts.last ≡ Some last → length (draft.parts.before ++ part ∷ []) ≡ length (begun draft.parts)
  same_count last part e =
      length-append draft.parts.before (part ∷ [])
      ∙ sym (length-append draft.parts.before (last ∷ []))
      ∙ ap (λ (l : Option Part). length (draft.parts.before ++ last_of l)) (sym e)

  placed_by : (side : Side) (last : Option Part) (numbers : Option (List ℕ)) (prints : Bool) → draft.parts.last ≡ last → places_print (prints_of by.code) side (unwrap_or numbers []) ≡ prints → Kept by draft false (with_parts draft (unless (least_code ((is_absent last, J13) ∷ (is_absent numbers, J14) ∷ (prints, J15) ∷ [])) (record draft.parts { last = option_map (placed side (unwrap_or numbers [])) last })))
  placed_by side None numbers prints e f = tt
  placed_by side (Some last) None prints e f = tt
  placed_by side (Some last) (Some numbers) true e f = tt
  placed_by side (Some last) (Some numbers) false e f =
      (parts_kept (record draft.parts { last = Some (placed side numbers last) }) (placed_hold by.code by.parts draft.parts.before last side numbers f (subst (λ (l : Option Part). PartsHold by.code by.parts draft.parts.before l) e h.parts)), same_count last (placed side numbers last) e)

  side_kept : (side : Side) (words : List (List ℕ)) → Kept by draft false (with_parts draft (judged_side by.code draft.parts side words))
  side_kept side words = elim (is_selector words) as (λ b. Kept by draft false (with_parts draft (if b then side_of by.code draft.parts side (selected by.code words) else Err J1))) [ true ↦ placed_by side draft.parts.last (selected by.code words) (places_print (prints_of by.code) side (unwrap_or (selected by.code words) [])) refl refl | false ↦ tt ]

  -- ---- one line

  form_kept : (verb : Option Verb) (words : List (List ℕ)) → Kept by draft (are_part verb words) (judged_form by draft verb words)
  form_kept None words = tt
  form_kept (Some (verbs.Set setting)) words = stood_kept (judged_setting draft.stood setting words)
  form_kept (Some verbs.Row) words = row_kept (judged_row by.tables draft.rows words) (row_fits by.tables draft.rows words)
  form_kept (Some verbs.Part) words = part_kept words
  form_kept (Some (verbs.Side side)) words = side_kept side words
  form_kept (Some verbs.Call) words = call_kept (judged_call by.entries by.sessions (length draft.calls) words) (call_fits by.entries by.sessions (length draft.calls) words)
  form_kept (Some verbs.Load) words = loads_kept (judged_load by.sessions draft.loads words) (loads_fit by.sessions draft.loads words h.loads)
  form_kept (Some verbs.Order) words = order_kept (judged_order by.sessions (is_some draft.order) words) (order_fits by.sessions (is_some draft.order) words)

  words_kept : (words : List (List ℕ)) → Kept by draft (is_part_line words) (judged_words by draft words)
  words_kept [] = (h, refl)
  words_kept (verb ∷ words) = elim (slice_index verb 0 == 35) as (λ b. Kept by draft (not b && are_part (verb_of verb) words) (if b then Ok draft else judged_form by draft (verb_of verb) words)) [ true ↦ (h, refl) | false ↦ form_kept (verb_of verb) words ]

  line_kept : (line : List ℕ) → Kept by draft (not (has_high_byte line) && is_part_line (words_of line)) (judged by draft line)
  line_kept line = elim (has_high_byte line) as (λ b. Kept by draft (not b && is_part_line (words_of line)) (if b then Err J1 else judged_words by draft (words_of line))) [ true ↦ tt | false ↦ words_kept (words_of line) ]

-- ---- all lines

-- so many parts have begun as the file has
abbrev AllKept : Against → Result Draft JobFault → Type 0
AllKept by meaning = IfOk meaning (λ draft. Holds by draft × (length (begun draft.parts) ≡ by.parts))

joined_kept : (by : Against) (draft : Draft) (counts : Bool) (number : ℕ) (meaning : Result Draft JobCode) (on : Draft → Result Draft JobFault) → Kept by draft counts meaning → ((next : Draft) → Holds by next → Counts counts (length (begun draft.parts)) (length (begun next.parts)) → AllKept by (on next)) → AllKept by (joined number meaning on)
joined_kept by draft counts number (Err code) on p go = tt
joined_kept by draft counts number (Ok next) on p go = go next p.0 p.1

count_more : (counts : Bool) (before after left all : ℕ) → Counts counts before after → before + (if counts then 1 + left else left) ≡ all → after + left ≡ all
count_more true before after left all c e = omega (arith, c, e)
count_more false before after left all c e = omega (arith, c, e)

lines_kept : (by : Against) (number : ℕ) (draft : Draft) (lines : List (List ℕ)) → Holds by draft → length (begun draft.parts) + parts_in lines ≡ by.parts → AllKept by (drafted_from by number draft lines)
lines_kept by number draft [] h e = (h, omega (arith, e))
lines_kept by number draft (line ∷ lines) h e =
    let counts : Bool = not (has_high_byte line) && is_part_line (words_of line) in
    joined_kept by draft counts number (judged by draft line) (λ so_far. drafted_from by (number + 1) so_far lines) (line_kept by draft h line) (λ next k c. lines_kept by (number + 1) next lines k (count_more counts (length (begun draft.parts)) (length (begun next.parts)) (parts_in lines) by.parts c e))

finished_fits : (by : Against) (settings : Settings) (meaning : Result Draft JobFault) → by.sessions ≡ settings.sessions → AreInRange settings → AllKept by meaning → IfOk (finished by.code settings meaning) (λ job. Fits by.entries by.tables by.code job)
finished_fits by settings (Err fault) same s k = tt
finished_fits by settings (Ok draft) same s k =
    let h : Holds by draft = k.0 in
    let parts : PartsFit by.code _ = parts_fit by.code by.parts draft.parts.before draft.parts.last k.1 h.parts in
    record {
      settings = s;
      rows = h.rows;
      keys = h.keys;
      row_count = h.row_count;
      parts = parts.parts;
      names = parts.names;
      rise = parts.rise;
      full = parts.end;
      part_count = parts.count;
      calls = subst (λ (n : ℕ). AllByRecursion (IsCallOf by.entries n) draft.calls) same h.calls;
      call_count = h.call_count;
      sessions = h.sessions ∙ same;
      loads = h.loads;
      order = subst (λ (n : ℕ). AllByRecursion (IsSession n) (unwrap_or draft.order [])) same h.order;
      order_count = h.order_count;
    }

under_fits : (entries : List Entry) (tables : List Table) (code : Code) (settings : Settings) (lines : List (List ℕ)) → AreInRange settings → IfOk (job_under entries tables code settings lines) (λ job. Fits entries tables code job)
under_fits entries tables code settings lines s =
    let by : Against = against_with entries tables code settings lines in
    finished_fits by settings (drafted_from by 1 (nothing_yet settings.sessions) lines) refl s (lines_kept by 1 (nothing_yet settings.sessions) lines (nothing_holds by) (omega arith))

pub jobs_fit : JobsFit
unfolding job_of
jobs_fit P schema code bytes = under_fits P.facts.main.entries schema.tables code (settings_of (noted_from nothing_stood (lines_of bytes))) (lines_of bytes) (settings_fit (noted_from nothing_stood (lines_of bytes)))
