-- A job without a line that two ends don't take yet is of one session and one part.
use Rattle.std.proofs.Common.{◌≡◌, ℕ, ◌==◌, Bool, true, false, ◌||◌, List, [], ◌∷◌, ◌++◌, length, replicate, slice_index, Option, Some, None, unwrap_or, Result, Ok, Err, IfOk, if◌then◌else◌, refl, sym, ap, ◌∙◌, subst, arith}
use Rattle.std.specs.List.{AllByRecursion}
use Rattle.std.specs.Option.{is_some, option_map}
use Rattle.px_code.specs.declared.side.Side.{Side}
use Rattle.px_normal.specs.declared.code.Code.{Code}
use Rattle.px_lex.specs.Names.{is_identifier}
use Rattle.px_job.specs.Lines.{lines_of}
use Rattle.px_job.specs.Words.{words_of}
use Rattle.px_job.specs.Rules.{least_code}
use Rattle.px_job.specs.Prints.{prints_of}
use Rattle.px_job.specs.Selecting.{is_selector, selected}
use Rattle.px_job.specs.Settings.{nothing_stood, settings_of}
use Rattle.px_job.specs.Rows.{judged_row}
use Rattle.px_job.specs.Calls.{judged_call}
use Rattle.px_job.specs.Parts.{bounds_of, with_budget, has_budget, begun, last_of, new_part, part_rules, with_part, part_by, judged_part, placed, side_rules, side_of, judged_side, parts_or_app}
use Rattle.px_job.specs.Verbs.{verb_of}
use Rattle.px_job.specs.Judging.{Against, judged_setting, with_stood, with_row, with_parts, with_call, judged_form, judged_words, has_high_byte, judged}
use Rattle.px_job.specs.Jobs.{noted_from, drafted_from, nothing_yet, finished, job_with, against_with, job_of}
use Rattle.px_job.specs.Beyond.{beyond_by, is_beyond, is_part_verb, begins_part}
use Rattle.px_job.specs.Fitting.{IsCallOf, IsPartOf, EndFull, Fits}
use Rattle.px_job.specs.OneSession.{IsOfOneSession, TakenIsOfOneSession}
use Rattle.px_job.specs.declared.settings.Settings.{Settings}
use Rattle.px_job.specs.declared.settings.Stood.{Stood}
use Rattle.px_job.specs.declared.parts.Bounds.{Bounds}
use Rattle.px_job.specs.declared.parts.Parts.{Parts}
use Rattle.px_job.specs.declared.verbs.Verb.{Verb}
use Rattle.px_job.specs.declared.verbs.Verb.TheVariants as verbs
use Rattle.px_job.specs.declared.draft.Draft.{Draft}
use Rattle.px_job.specs.declared.job.Row.{Row}
use Rattle.px_job.specs.declared.job.Part.{Part}
use Rattle.px_job.specs.declared.job.Call.{Call}
use Rattle.px_job.specs.declared.job.Job.{Job}
use Rattle.px_job.specs.declared.job.JobCode.{JobCode}
use Rattle.px_job.specs.declared.job.JobCode.TheVariants.{J1}
use Rattle.px_job.specs.declared.job.JobFault.{JobFault}
use Rattle.px_facts.specs.declared.checked.Entry.{Entry}
use Rattle.px_job.proofs.FittingJobs.{jobs_fit}
use Rattle.px_job.proofs.FittingLines.{all_map}
use Rattle.px_job.proofs.DraftsKept.{unless_keeps, taken_keep}
use Rattle.px_job.proofs.OneSessionSettings.{one_session}

-- ---- drafts

-- a part without a budget has begun, or none: none before the line of a part
abbrev LastBy : Bool → Option Part → Type 0
LastBy parted None = Unit {0}
LastBy true (Some part) = part.budget ≡ None
LastBy false (Some part) = ⊥

record IsSingle (sessions : ℕ) (parted : Bool) (draft : Draft) : Type 0 where
  before : draft.parts.before ≡ []
  last : LastBy parted draft.parts.last
  loads : draft.loads ≡ replicate sessions []
  order : draft.order ≡ None

last_later : (parted more : Bool) (last : Option Part) → LastBy parted last → LastBy (parted || more) last
last_later true more last p = p
last_later false more None p = tt
last_later false more (Some part) p = absurd p

later : (sessions : ℕ) (parted more : Bool) (draft : Draft) → IsSingle sessions parted draft → IsSingle sessions (parted || more) draft
later sessions parted more draft h = record { before = h.before; last = last_later parted more draft.parts.last h.last; loads = h.loads; order = h.order }

module _ (sessions : ℕ) (parted : Bool) (draft : Draft) (h : IsSingle sessions parted draft) where
  stood_single : (meaning : Result Stood JobCode) → IfOk (with_stood draft meaning) (IsSingle sessions parted)
  stood_single (Err code) = tt
  stood_single (Ok s) = record { before = h.before; last = h.last; loads = h.loads; order = h.order }

  row_single : (meaning : Result Row JobCode) → IfOk (with_row draft meaning) (IsSingle sessions parted)
  row_single (Err code) = tt
  row_single (Ok row) = record { before = h.before; last = h.last; loads = h.loads; order = h.order }

  call_single : (meaning : Result Call JobCode) → IfOk (with_call draft meaning) (IsSingle sessions parted)
  call_single (Err code) = tt
  call_single (Ok call) = record { before = h.before; last = h.last; loads = h.loads; order = h.order }

-- ---- parts

-- parts of which so much is known
record AreSingle (parted : Bool) (parts : Parts) : Type 0 where
  before : parts.before ≡ []
  last : LastBy parted parts.last

parts_single : (sessions : ℕ) (parted after : Bool) (draft : Draft) (meaning : Result Parts JobCode) → IsSingle sessions parted draft → IfOk meaning (AreSingle after) → IfOk (with_parts draft meaning) (IsSingle sessions after)
parts_single sessions parted after draft (Err code) h p = tt
parts_single sessions parted after draft (Ok parts) h p = record { before = p.before; last = p.last; loads = h.loads; order = h.order }

none_begun : (before : List Part) (last : Option Part) → before ≡ [] → LastBy false last → before ++ last_of last ≡ []
none_begun before None e p = ap (λ (ps : List Part). ps ++ []) e
none_begun before (Some part) e p = absurd p

no_budget : (budget : Option ℕ) → is_some budget ≡ false → budget ≡ None
no_budget None e = refl
no_budget (Some n) e = absurd (cc e)

by_single : (code : Code) (all : ℕ) (parts : Parts) (name : List ℕ) (bounds : Option Bounds) → AreSingle false parts → with_budget bounds ≡ false → IfOk (part_by code all parts name bounds) (AreSingle true)
by_single code all parts name None h e = tt
by_single code all parts name (Some bounds) h e = unless_keeps (AreSingle true) (least_code (part_rules all parts name bounds)) (with_part parts (new_part code name bounds)) (record { before = none_begun parts.before parts.last h.before h.last; last = no_budget bounds.budget e })

part_single : (code : Code) (all : ℕ) (parts : Parts) (words : List (List ℕ)) → AreSingle false parts → has_budget words ≡ false → IfOk (judged_part code all parts words) (AreSingle true)
part_single code all parts [] h e = tt
part_single code all parts (name ∷ words) h e = elim (is_identifier name) as (λ b. IfOk (if b then part_by code all parts name (bounds_of words) else Err J1) (AreSingle true)) [ true ↦ by_single code all parts name (bounds_of words) h e | false ↦ tt ]

last_placed : (parted : Bool) (side : Side) (numbers : List ℕ) (last : Option Part) → LastBy parted last → LastBy parted (option_map (placed side numbers) last)
last_placed parted side numbers None p = p
last_placed true side numbers (Some part) p = p
last_placed false side numbers (Some part) p = absurd p

placed_single : (code : Code) (parted : Bool) (parts : Parts) (side : Side) (numbers : Option (List ℕ)) → AreSingle parted parts → IfOk (side_of code parts side numbers) (AreSingle parted)
placed_single code parted parts side numbers h =
    unless_keeps (AreSingle parted) (least_code (side_rules (prints_of code) side parts.last numbers)) (record parts { last = option_map (placed side (unwrap_or numbers [])) parts.last }) (record { before = h.before; last = last_placed parted side (unwrap_or numbers []) parts.last h.last })

side_single : (code : Code) (parted : Bool) (parts : Parts) (side : Side) (words : List (List ℕ)) → AreSingle parted parts → IfOk (judged_side code parts side words) (AreSingle parted)
side_single code parted parts side words h = elim (is_selector words) as (λ b. IfOk (if b then side_of code parts side (selected code words) else Err J1) (AreSingle parted)) [ true ↦ placed_single code parted parts side (selected code words) h | false ↦ tt ]

-- ---- one line

module _ (by : Against) (sessions : ℕ) where
  part_line : (parted : Bool) (draft : Draft) (words : List (List ℕ)) → IsSingle sessions parted draft → (parted || has_budget words) ≡ false → IfOk (with_parts draft (judged_part by.code by.parts draft.parts words)) (IsSingle sessions (parted || true))
  part_line true draft words h e = absurd (cc e)
  part_line false draft words h e = parts_single sessions false true draft (judged_part by.code by.parts draft.parts words) h (part_single by.code by.parts draft.parts words (record { before = h.before; last = h.last }) e)

  form_single : (parted : Bool) (draft : Draft) (verb : Option Verb) (words : List (List ℕ)) → IsSingle sessions parted draft → beyond_by parted verb words ≡ false → IfOk (judged_form by draft verb words) (IsSingle sessions (parted || is_part_verb verb))
  form_single parted draft None words h e = tt
  form_single parted draft (Some (verbs.Set setting)) words h e = stood_single sessions (parted || false) draft (later sessions parted false draft h) (judged_setting draft.stood setting words)
  form_single parted draft (Some verbs.Row) words h e = row_single sessions (parted || false) draft (later sessions parted false draft h) (judged_row by.tables draft.rows words)
  form_single parted draft (Some verbs.Part) words h e = part_line parted draft words h e
  form_single parted draft (Some (verbs.Side side)) words h e =
      let k = later sessions parted false draft h in
      parts_single sessions (parted || false) (parted || false) draft (judged_side by.code draft.parts side words) k (side_single by.code (parted || false) draft.parts side words (record { before = k.before; last = k.last }))
  form_single parted draft (Some verbs.Call) words h e = call_single sessions (parted || false) draft (later sessions parted false draft h) (judged_call by.entries by.sessions (length draft.calls) words)
  form_single parted draft (Some verbs.Load) words h e = absurd (cc e)
  form_single parted draft (Some verbs.Order) words h e = absurd (cc e)

  words_single : (parted : Bool) (draft : Draft) (words : List (List ℕ)) → IsSingle sessions parted draft → is_beyond parted words ≡ false → IfOk (judged_words by draft words) (IsSingle sessions (parted || begins_part words))
  words_single parted draft [] h e = later sessions parted false draft h
  words_single parted draft (verb ∷ words) h e = elim (slice_index verb 0 == 35) as (λ b. IfOk (if b then Ok draft else judged_form by draft (verb_of verb) words) (IsSingle sessions (parted || is_part_verb (verb_of verb)))) [ true ↦ later sessions parted (is_part_verb (verb_of verb)) draft h | false ↦ form_single parted draft (verb_of verb) words h e ]

  line_single : (parted : Bool) (draft : Draft) (line : List ℕ) → IsSingle sessions parted draft → is_beyond parted (words_of line) ≡ false → IfOk (judged by draft line) (IsSingle sessions (parted || begins_part (words_of line)))
  line_single parted draft line h e = elim (has_high_byte line) as (λ b. IfOk (if b then Err J1 else judged_words by draft (words_of line)) (IsSingle sessions (parted || begins_part (words_of line)))) [ true ↦ tt | false ↦ words_single parted draft (words_of line) h e ]

-- ---- a job

-- the job has one part, with no budget, and no loads and no order
record IsOfOnePart (sessions : ℕ) (job : Job) : Type 0 where
  loads : job.loads ≡ replicate sessions []
  order : job.order ≡ []
  part : Part
  one : job.parts ≡ part ∷ []
  budget : part.budget ≡ None

record IsOne (parts : List Part) : Type 0 where
  part : Part
  one : parts ≡ part ∷ []
  budget : part.budget ≡ None

one_of : (code : Code) (parted : Bool) (last : Option Part) → LastBy parted last → IsOne (parts_or_app code (last_of last))
one_of code parted None p = record { part = _; one = refl; budget = refl }
one_of code true (Some part) p = record { part = part; one = refl; budget = p }
one_of code false (Some part) p = absurd p

job_is_of_one : (code : Code) (settings : Settings) (sessions : ℕ) (parted : Bool) (draft : Draft) → IsSingle sessions parted draft → IsOfOnePart sessions (job_with code settings draft)
job_is_of_one code settings sessions parted draft h =
    let one : IsOne (parts_or_app code (begun draft.parts)) = subst (λ (before : List Part). IsOne (parts_or_app code (before ++ last_of draft.parts.last))) (sym h.before) (one_of code parted draft.parts.last h.last) in
    record { loads = h.loads; order = ap (λ (order : Option (List ℕ)). unwrap_or order []) h.order; part = one.part; one = one.one; budget = one.budget }

finished_of_one : (code : Code) (settings : Settings) (sessions : ℕ) (meaning : Result Draft JobFault) → IfOk meaning (λ draft. IsOfOnePart sessions (job_with code settings draft)) → IfOk (finished code settings meaning) (IsOfOnePart sessions)
finished_of_one code settings sessions (Err fault) p = tt
finished_of_one code settings sessions (Ok draft) p = p

settings_stay : (code : Code) (settings : Settings) (meaning : Result Draft JobFault) → IfOk (finished code settings meaning) (λ job. job.settings ≡ settings)
settings_stay code settings (Err fault) = tt
settings_stay code settings (Ok draft) = refl

first_session : (entries : List Entry) (sessions : ℕ) → sessions ≡ 1 → (call : Call) → IsCallOf entries sessions call → call.session ≡ 1
first_session entries sessions e call h = omega (arith, e, h.session.0, h.session.1)

-- what is known of a job, apart from its file
together : (entries : List Entry) (tables : List _) (code : Code) (job : Job) (sessions : ℕ) → Fits entries tables code job → IsOfOnePart sessions job → job.settings.sessions ≡ sessions → sessions ≡ 1 → IsOfOneSession code job
together entries tables code job sessions fits h s one =
    let part : IsPartOf code h.part = (subst (AllByRecursion (IsPartOf code)) h.one fits.parts).0 in
    record {
      sessions = s ∙ one;
      calls = all_map (IsCallOf entries job.settings.sessions) (λ call. call.session ≡ 1) job.calls (first_session entries job.settings.sessions (s ∙ one)) fits.calls;
      loads = h.loads ∙ ap (λ (n : ℕ). replicate n []) one;
      order = h.order;
      part = h.part;
      one = h.one;
      upto = subst EndFull h.one fits.full;
      budget = h.budget;
      nodes = part.nodes;
      sides = part.sides h.budget;
      prints = part.prints;
    }

of_job : (P : Job → Type 0) (meaning : Result Job JobFault) (job : Job) → meaning ≡ Ok job → IfOk meaning P → P job
of_job P meaning job e p = subst (λ (m : Result Job JobFault). IfOk m P) e p

pub taken_is_of_one_session : TakenIsOfOneSession
unfolding job_of
taken_is_of_one_session P schema code bytes job e none =
    let lines : List (List ℕ) = lines_of bytes in
    let settings : Settings = settings_of (noted_from nothing_stood lines) in
    let by : Against = against_with P.facts.main.entries schema.tables code settings lines in
    let sessions : ℕ = settings.sessions in
    let drafted : Result Draft JobFault = drafted_from by 1 (nothing_yet sessions) lines in
    let begins : IsSingle sessions false (nothing_yet sessions) = record { before = refl; last = tt; loads = refl; order = refl } in
    let single : IfOk drafted (λ draft. IsOfOnePart sessions (job_with code settings draft)) =
    taken_keep by (IsSingle sessions) (λ draft. IsOfOnePart sessions (job_with code settings draft)) (line_single by sessions) (job_is_of_one code settings sessions) 1 false (nothing_yet sessions) lines none begins in
    let one : IsOfOnePart sessions job = of_job (IsOfOnePart sessions) (finished code settings drafted) job e (finished_of_one code settings sessions drafted single) in
    let same : job.settings ≡ settings = of_job (λ j. j.settings ≡ settings) (finished code settings drafted) job e (settings_stay code settings drafted) in
    let fits : Fits P.facts.main.entries schema.tables code job = of_job (Fits P.facts.main.entries schema.tables code) (finished code settings drafted) job e (jobs_fit P schema code bytes) in
    together P.facts.main.entries schema.tables code job sessions fits one (ap (λ (s : Settings). s.sessions) same) (one_session nothing_stood 1 false lines none tt)
