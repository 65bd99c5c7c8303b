-- What a line makes that begins with `call`.
use Rattle.std.specs.Prelude.{ℕ, ◌==◌, nat_le, Bool, false, not, ◌&&◌, List, [], ◌∷◌, length, slice_get, unwrap_or, Option, Some, None, Result, Err, if◌then◌else◌}
use Rattle.std.specs.List.{list_all}
use Rattle.std.specs.Option.{option_and_then}
use Rattle.px_value.specs.declared.value.Value.{Value}
use Rattle.px_facts.specs.declared.checked.Entry.{Entry}
use Rattle.px_job.specs.Places.{place_of}
use Rattle.px_lex.specs.Names.{is_identifier}
use Rattle.px_job.specs.Numbers.{number, within}
use Rattle.px_job.specs.Rules.{Rule, least_code, is_absent, unless}
use Rattle.px_job.specs.Arguments.{is_digits, is_value, arguments_of}
use Rattle.px_job.specs.declared.job.Call.{Call}
use Rattle.px_job.specs.declared.job.JobCode.{JobCode}
use Rattle.px_job.specs.declared.job.JobCode.TheVariants.{J1, J5, J10, J11, J12, J18}

-- the most calls of a job
abbrev pub max_calls : ℕ
max_calls = 2000

-- ---- the rules of a call

-- the words aren't as many as the parameters
abbrev pub has_wrong_count : Option Entry → List (List ℕ) → Bool
has_wrong_count None words = false
has_wrong_count (Some entry) words = not (length words == length entry.params)

-- the values of the parameters that the words stand for
abbrev pub arguments_for : Option Entry → List (List ℕ) → Option (List Value)
arguments_for None words = None
arguments_for (Some entry) words = arguments_of entry.params words

-- so many stand before that there is no room for one more
abbrev pub is_call_too_many : ℕ → Bool
is_call_too_many calls = nat_le max_calls calls

abbrev pub call_rules : ℕ → List (List ℕ) → Option ℕ → Option Entry → Option (List Value) → List Rule
call_rules calls words session entry arguments =
    (is_absent session, J5)
    ∷ (is_absent entry, J10)
    ∷ (has_wrong_count entry words, J11)
    ∷ (is_absent arguments, J12)
    ∷ (is_call_too_many calls, J18)
    ∷ []

-- the session's call of the entry at a place with these arguments, where there are all three
abbrev pub made_call : Option ℕ → Option ℕ → Option (List Value) → Call
made_call session place arguments = record { session = unwrap_or session 0; entry = unwrap_or place 0; args = unwrap_or arguments [] }

abbrev pub call_with : ℕ → List (List ℕ) → Option ℕ → Option ℕ → Option Entry → Option (List Value) → Result Call JobCode
call_with calls words session place entry arguments = unless (least_code (call_rules calls words session entry arguments)) (made_call session place arguments)

abbrev pub call_at : ℕ → List (List ℕ) → Option ℕ → Option ℕ → Option Entry → Result Call JobCode
call_at calls words session place entry = call_with calls words session place entry (arguments_for entry words)

abbrev pub call_to : List Entry → ℕ → List (List ℕ) → Option ℕ → Option ℕ → Result Call JobCode
call_to entries calls words session place = call_at calls words session place (option_and_then (slice_get entries) place)

-- the words behind `call`: a session, an entry and its arguments
abbrev pub judged_call : List Entry → ℕ → ℕ → List (List ℕ) → Result Call JobCode
judged_call entries sessions calls (session ∷ name ∷ words) = if is_digits session && is_identifier name && list_all is_value words then call_to entries calls words (within 1 sessions (number session)) (place_of name entries) else Err J1
judged_call entries sessions calls _ = Err J1
