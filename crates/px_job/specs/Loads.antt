-- What lines make that begin with `load` or `order`.
use Rattle.std.specs.Prelude.{ℕ, ◌+◌, ◌-◌, nat_lt, Bool, ◌&&◌, List, [], ◌∷◌, ◌++◌, length, slice_get, slice_set, unwrap_or, Option, Some, None, Result, Err, if◌then◌else◌}
use Rattle.px_job.specs.Rules.{Rule, least_code, is_absent, unless}
use Rattle.px_job.specs.Numbers.{number, within, are_digits, numbers_within}
use Rattle.px_job.specs.Arguments.{is_digits}
use Rattle.px_job.specs.declared.job.JobCode.{JobCode}
use Rattle.px_job.specs.declared.job.JobCode.TheVariants.{J1, J3, J4, J5, J20}

-- the most readings of a session, and the greatest
abbrev pub max_readings : ℕ
max_readings = 2000

abbrev pub full_load : ℕ
full_load = 1000

-- the most entries of the order
abbrev pub max_order : ℕ
max_order = 10000

-- ---- the rules of readings

-- what a session has read so far
abbrev pub load_of : List (List ℕ) → Option ℕ → Option (List ℕ)
load_of loads None = None
load_of loads (Some session) = slice_get loads (session - 1)

-- a session has so many readings that there is no room for these
abbrev pub are_too_many : Option (List ℕ) → Option (List ℕ) → Bool
are_too_many load readings = nat_lt max_readings (length (unwrap_or load []) + length (unwrap_or readings []))

abbrev pub load_rules : Option (List ℕ) → Option (List ℕ) → List Rule
load_rules load readings = (is_absent readings, J4) ∷ (is_absent load, J5) ∷ (are_too_many load readings, J20) ∷ []

-- the loads of all sessions, with more readings of the session at a place, which has some
abbrev pub loads_with : List (List ℕ) → ℕ → Option (List ℕ) → Option (List ℕ) → Result (List (List ℕ)) JobCode
loads_with loads place load readings = unless (least_code (load_rules load readings)) (slice_set loads place (unwrap_or load [] ++ unwrap_or readings []))

abbrev pub loads_by : List (List ℕ) → Option ℕ → Option (List ℕ) → Result (List (List ℕ)) JobCode
loads_by loads session readings = loads_with loads (unwrap_or session 0 - 1) (load_of loads session) readings

-- the words behind `load`: a session and its readings
abbrev pub judged_load : ℕ → List (List ℕ) → List (List ℕ) → Result (List (List ℕ)) JobCode
judged_load sessions loads (session ∷ words) = if is_digits session && are_digits words then loads_by loads (within 1 sessions (number session)) (numbers_within 0 full_load words) else Err J1
judged_load sessions loads _ = Err J1

-- ---- the rules of the order

-- the sessions of the order, where each is one that there is
abbrev pub sessions_of : ℕ → List (List ℕ) → List ℕ
sessions_of sessions words = unwrap_or (numbers_within 1 sessions words) []

abbrev pub names_no_session : ℕ → List (List ℕ) → Bool
names_no_session sessions words = is_absent (numbers_within 1 sessions words)

abbrev pub is_order_too_long : ℕ → List (List ℕ) → Bool
is_order_too_long sessions words = nat_lt max_order (length (sessions_of sessions words))

abbrev pub order_rules : ℕ → Bool → List (List ℕ) → List Rule
order_rules sessions repeated words = (repeated, J3) ∷ (names_no_session sessions words, J5) ∷ (is_order_too_long sessions words, J20) ∷ []

-- the words behind `order`, behind another line of the form or not: sessions
abbrev pub judged_order : ℕ → Bool → List (List ℕ) → Result (List ℕ) JobCode
judged_order sessions repeated words = if are_digits words then unless (least_code (order_rules sessions repeated words)) (sessions_of sessions words) else Err J1
