-- Where no line sets more sessions than one, there is one.
use Rattle.std.proofs.Common.{◌≡◌, ℕ, ◌+◌, Bool, true, false, ◌||◌, List, [], ◌∷◌, Option, Some, None, IfSome, if◌then◌else◌, refl, sym, ap, ◌∙◌, subst, arith, codes}
use Rattle.std.specs.Str.{bytes_eq}
use Rattle.std.proofs.lemmas.Slice.Eq.{bytes_eq-Decides}
use Rattle.px_job.specs.Words.{words_of}
use Rattle.px_job.specs.Numbers.{number}
use Rattle.px_job.specs.Arguments.{is_digits}
use Rattle.px_job.specs.Settings.{stood_with, set_or, settings_of}
use Rattle.px_job.specs.Verbs.{setting_of, verb_of}
use Rattle.px_job.specs.Judging.{has_high_byte, first_stood, noted_by, noted_words, noted}
use Rattle.px_job.specs.Jobs.{noted_from}
use Rattle.px_job.specs.Beyond.{sets_more, beyond_by, is_beyond, begins_part, beyond_from}
use Rattle.px_job.specs.declared.settings.Stood.{Stood}
use Rattle.px_job.specs.declared.settings.Setting.{Setting}
use Rattle.px_job.specs.declared.settings.Setting.TheVariants.{Sessions, Workers, Retries, Alpha, Latency, PerByte, Profile}
use Rattle.px_job.proofs.DraftsKept.{none_beyond}

-- if a line has told how many sessions there are, it told one
abbrev pub TellsOne : Stood → Type 0
TellsOne s = IfSome s.sessions (λ n. n ≡ 1)

-- ---- another setting

abbrev IsOther : Option Setting → Type 0
IsOther (Some Sessions) = ⊥
IsOther _ = Unit {0}

same_sessions : (s : Stood) (setting : Setting) (n : ℕ) → IsOther (Some setting) → s.sessions ≡ (stood_with s setting n).sessions
same_sessions s Sessions n other = absurd other
same_sessions s Workers n other = refl
same_sessions s Retries n other = refl
same_sessions s Alpha n other = refl
same_sessions s Latency n other = refl
same_sessions s PerByte n other = refl
same_sessions s Profile n other = refl

other_first : (s : Stood) (setting : Setting) (digits : Bool) (n : ℕ) (found : Option ℕ) → IsOther (Some setting) → TellsOne s → TellsOne (first_stood s setting digits n found)
other_first s setting true n None other h = subst (λ (found : Option ℕ). IfSome found (λ m. m ≡ 1)) (same_sessions s setting n other) h
other_first s setting true n (Some m) other h = h
other_first s setting false n None other h = h
other_first s setting false n (Some m) other h = h

other_noted : (s : Stood) (found : Option Setting) (words : List (List ℕ)) → IsOther found → TellsOne s → TellsOne (noted_by s found words)
other_noted s None [] other h = h
other_noted s None (word ∷ []) other h = h
other_noted s None (word ∷ next ∷ words) other h = h
other_noted s (Some setting) [] other h = h
other_noted s (Some setting) (word ∷ []) other h = other_first s setting (is_digits word) (number word) _ other h
other_noted s (Some setting) (word ∷ next ∷ words) other h = h

-- ---- the sessions

one_first : (s : Stood) (digits : Bool) (n : ℕ) (found : Option ℕ) → n ≡ 1 → TellsOne s → TellsOne (first_stood s Sessions digits n found)
one_first s true n None e h = e
one_first s true n (Some m) e h = h
one_first s false n None e h = h
one_first s false n (Some m) e h = h

sessions_noted : (s : Stood) (words : List (List ℕ)) → sets_more words ≡ false → TellsOne s → TellsOne (noted_by s (Some Sessions) words)
sessions_noted s [] e h = h
sessions_noted s (word ∷ []) e h = one_first s (is_digits word) (number word) s.sessions (grind (arith, e)) h
sessions_noted s (word ∷ next ∷ words) e h = h

-- ---- one line

or_other : (is : Bool) (one other : Option Setting) → IsOther one → IsOther other → IsOther (if is then one else other)
or_other true one other p q = p
or_other false one other p q = q

-- what stands behind the first test
rest_is_other : (verb : List ℕ) → bytes_eq verb (codes "sessions") ≡ false → IsOther (setting_of verb)
rest_is_other verb e =
    let profile = or_other (bytes_eq verb (codes "profile")) (Some Profile) None tt tt in
    let per_byte = or_other (bytes_eq verb (codes "perbyte")) (Some PerByte) _ tt profile in
    let latency = or_other (bytes_eq verb (codes "latency")) (Some Latency) _ tt per_byte in
    let alpha = or_other (bytes_eq verb (codes "alpha")) (Some Alpha) _ tt latency in
    let retries = or_other (bytes_eq verb (codes "retries")) (Some Retries) _ tt alpha in
    let workers = or_other (bytes_eq verb (codes "workers")) (Some Workers) _ tt retries in
    rw e workers

verb_noted : (s : Stood) (parted : Bool) (verb : List ℕ) (words : List (List ℕ)) (is : Bool) → bytes_eq verb (codes "sessions") ≡ is → beyond_by parted (verb_of verb) words ≡ false → TellsOne s → TellsOne (noted_by s (setting_of verb) words)
verb_noted s parted verb words true e none h =
    let same : verb ≡ codes "sessions" = (bytes_eq-Decides verb (codes "sessions")).0 e in
    let few : sets_more words ≡ false = ap (λ (v : List ℕ). beyond_by parted (verb_of v) words) (sym same) ∙ none in
    subst (λ (v : List ℕ). TellsOne (noted_by s (setting_of v) words)) (sym same) (sessions_noted s words few h)
verb_noted s parted verb words false e none h = other_noted s (setting_of verb) words (rest_is_other verb e) h

words_noted : (s : Stood) (parted : Bool) (words : List (List ℕ)) → is_beyond parted words ≡ false → TellsOne s → TellsOne (noted_words s words)
words_noted s parted [] none h = h
words_noted s parted (verb ∷ words) none h = verb_noted s parted verb words (bytes_eq verb (codes "sessions")) refl none h

line_noted : (s : Stood) (parted : Bool) (line : List ℕ) → is_beyond parted (words_of line) ≡ false → TellsOne s → TellsOne (noted s line)
line_noted s parted line none h = elim (has_high_byte line) as (λ b. TellsOne (if b then s else noted_words s (words_of line))) [ true ↦ h | false ↦ words_noted s parted (words_of line) none h ]

-- ---- all lines

lines_noted : (s : Stood) (number : ℕ) (parted : Bool) (lines : List (List ℕ)) → beyond_from number parted lines ≡ None → TellsOne s → TellsOne (noted_from s lines)
lines_noted s number parted [] none h = h
lines_noted s number parted (line ∷ lines) none h =
    let cut = none_beyond number parted line lines none in
    lines_noted (noted s line) (number + 1) (parted || begins_part (words_of line)) lines cut.later (line_noted s parted line cut.here h)

one_set : (found : Option ℕ) → IfSome found (λ n. n ≡ 1) → set_or Sessions 1 found ≡ 1
one_set None h = refl
one_set (Some n) h = ap (λ (m : ℕ). set_or Sessions 1 (Some m)) h

pub one_session : (s : Stood) (number : ℕ) (parted : Bool) (lines : List (List ℕ)) → beyond_from number parted lines ≡ None → TellsOne s → (settings_of (noted_from s lines)).sessions ≡ 1
one_session s number parted lines none h = one_set (noted_from s lines).sessions (lines_noted s number parted lines none h)
