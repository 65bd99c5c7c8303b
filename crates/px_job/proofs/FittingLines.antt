-- What a line makes keeps what a job keeps.
use Rattle.std.proofs.Common.{◌≡◌, ℕ, zero, suc, ◌+◌, ◌-◌, ◌≤◌, ◌<◌, Bool, true, false, ◌&&◌, List, [], ◌∷◌, ◌++◌, length, slice_get, slice_set, unwrap_or, Option, Some, None, IfSome, Result, Err, IfOk, if◌then◌else◌, refl, ap, sym, ◌∙◌, append_assoc, arith}
use Rattle.std.specs.List.{AllByRecursion, list_all}
use Rattle.std.proofs.lemmas.Bool.{leb-false}
use Rattle.std.proofs.lemmas.List.{length-set, length-append, append-nil}
use Rattle.px_value.specs.declared.schema.Table.{Table}
use Rattle.px_value.specs.declared.value.Value.{Value}
use Rattle.px_facts.specs.declared.checked.Entry.{Entry}
use Rattle.px_lex.specs.Names.{is_identifier}
use Rattle.px_job.specs.Places.{place_of}
use Rattle.px_job.specs.Numbers.{number, within, are_digits, numbers_within}
use Rattle.px_job.specs.Arguments.{is_digits, is_value, arguments_of}
use Rattle.px_job.specs.Cells.{cells_of}
use Rattle.px_job.specs.Rules.{least_code, is_absent, unless}
use Rattle.px_job.specs.Rows.{max_rows, place_named, key_stands, has_wrong_count as row_count_wrong, repeats_key, is_row_too_many, made_row, row_at, row_in, judged_row}
use Rattle.px_job.specs.Calls.{max_calls, has_wrong_count as call_count_wrong, is_call_too_many, made_call, call_at, call_to, judged_call}
use Rattle.px_job.specs.Loads.{max_readings, full_load, max_order, load_of, are_too_many, loads_by, judged_load, sessions_of, names_no_session, is_order_too_long, order_rules, judged_order}
use Rattle.px_job.specs.Fitting.{HaveTypes, FitColumns, IsRowOf, HaveNewKeys, IsSession, IsCallOf, AreReadings}
use Rattle.px_job.specs.declared.job.Row.{Row}
use Rattle.px_job.specs.declared.job.Call.{Call}
use Rattle.px_job.specs.declared.job.JobCode.{JobCode}
use Rattle.px_job.specs.declared.job.JobCode.TheVariants.{J1, J3, J4, J5, J6, J7, J8, J9, J10, J11, J12, J18, J19, J20}
use Rattle.px_job.proofs.FittingValues.{within_fits, numbers_fit, arguments_fit, cells_fit}

-- ---- lists

pub all_append : {A : Type 0} (P : A → Type 0) (xs ys : List A) → AllByRecursion P xs → AllByRecursion P ys → AllByRecursion P (xs ++ ys)
all_append P [] ys p q = q
all_append P (x ∷ xs) ys p q = (p.0, all_append P xs ys p.1 q)

pub all_map : {A : Type 0} (P Q : A → Type 0) (xs : List A) → ((x : A) → P x → Q x) → AllByRecursion P xs → AllByRecursion Q xs
all_map P Q [] each p = tt
all_map P Q (x ∷ xs) each p = (each x p.0, all_map P Q xs each p.1)

pub all_set : {A : Type 0} (P : A → Type 0) (xs : List A) (place : ℕ) (x : A) → AllByRecursion P xs → P x → AllByRecursion P (slice_set xs place x)
all_set P [] place x p q = tt
all_set P (y ∷ xs) zero x p q = (q, p.1)
all_set P (y ∷ xs) (suc place) x p q = (p.0, all_set P xs place x p.1 q)

all_get : {A : Type 0} (P : A → Type 0) (xs : List A) (place : ℕ) → AllByRecursion P xs → IfSome (slice_get xs place) P
all_get P [] place p = tt
all_get P (x ∷ xs) zero p = p.0
all_get P (x ∷ xs) (suc place) p = all_get P xs place p.1

pub new_keys_more : (before rows : List Row) (row : Row) → HaveNewKeys before rows → key_stands (before ++ rows) row.table row.values ≡ false → HaveNewKeys before (rows ++ row ∷ [])
new_keys_more before [] row h k = (ap (λ (rows : List Row). key_stands rows row.table row.values) (sym (append-nil before)) ∙ k, tt)
new_keys_more before (other ∷ rows) row h k = (h.0, new_keys_more (before ++ other ∷ []) rows row h.1 (ap (λ (all : List Row). key_stands all row.table row.values) (append_assoc before (other ∷ []) rows) ∙ k))

-- ---- rows

-- the row has its table, a key that no row before has, and room
abbrev pub IsNext : List Table → List Row → Row → Type 0
IsNext tables rows row = IsRowOf tables row × (key_stands rows row.table row.values ≡ false) × (length rows < max_rows)

abbrev pub RowFits : List Table → List Row → Result Row JobCode → Type 0
RowFits tables rows meaning = IfOk meaning (λ row. IsNext tables rows row)

row_by : (tables : List Table) (rows : List Row) (place : ℕ) (table : Table) (values : Option (List Value)) (wrong stands full : Bool) → slice_get tables place ≡ Some table → IfSome values (λ vs. FitColumns table.columns vs) → repeats_key rows (made_row (Some place) values) ≡ stands → is_row_too_many rows ≡ full → RowFits tables rows (unless (least_code ((false, J6) ∷ (wrong, J7) ∷ (is_absent values, J8) ∷ (stands, J9) ∷ (full, J19) ∷ [])) (made_row (Some place) values))
row_by tables rows place table values true stands full e p k n = tt
row_by tables rows place table None false stands full e p k n = tt
row_by tables rows place table (Some values) false true full e p k n = tt
row_by tables rows place table (Some values) false false true e p k n = tt
row_by tables rows place table (Some values) false false false e p k n = (record { table = table; found = e; values = p }, k, leb-false max_rows (length rows) n)

row_at_fits : (tables : List Table) (rows : List Row) (words : List (List ℕ)) (place : ℕ) (table : Option Table) → slice_get tables place ≡ table → RowFits tables rows (row_at rows words (Some place) table)
row_at_fits tables rows words place None e = tt
row_at_fits tables rows words place (Some table) e = row_by tables rows place table (cells_of table.columns words) (row_count_wrong (Some table) words) (repeats_key rows (made_row (Some place) (cells_of table.columns words))) (is_row_too_many rows) e (cells_fit table.columns words) refl refl

row_in_fits : (tables : List Table) (rows : List Row) (words : List (List ℕ)) (place : Option ℕ) → RowFits tables rows (row_in tables rows words place)
row_in_fits tables rows words None = tt
row_in_fits tables rows words (Some place) = row_at_fits tables rows words place (slice_get tables place) refl

pub row_fits : (tables : List Table) (rows : List Row) (words : List (List ℕ)) → RowFits tables rows (judged_row tables rows words)
row_fits tables rows [] = tt
row_fits tables rows (name ∷ []) = tt
row_fits tables rows (name ∷ word ∷ words) =
    elim (is_identifier name && list_all is_value (word ∷ words)) as (λ b. RowFits tables rows (if b then row_in tables rows (word ∷ words) (place_named tables name) else Err J1)) [
      | true ↦ row_in_fits tables rows (word ∷ words) (place_named tables name)
      | false ↦ tt
    ]

-- ---- calls

abbrev pub CallFits : List Entry → ℕ → ℕ → Result Call JobCode → Type 0
CallFits entries sessions calls meaning = IfOk meaning (λ call. IsCallOf entries sessions call × (calls < max_calls))

call_by : (entries : List Entry) (sessions calls session place : ℕ) (entry : Entry) (values : Option (List Value)) (wrong full : Bool) → IsSession sessions session → slice_get entries place ≡ Some entry → IfSome values (λ vs. HaveTypes entry.params vs) → is_call_too_many calls ≡ full → CallFits entries sessions calls (unless (least_code ((false, J5) ∷ (false, J10) ∷ (wrong, J11) ∷ (is_absent values, J12) ∷ (full, J18) ∷ [])) (made_call (Some session) (Some place) values))
call_by entries sessions calls session place entry values true full s e p n = tt
call_by entries sessions calls session place entry None false full s e p n = tt
call_by entries sessions calls session place entry (Some values) false true s e p n = tt
call_by entries sessions calls session place entry (Some values) false false s e p n = (record { session = s; entry = entry; found = e; arguments = p }, leb-false max_calls calls n)

call_at_fits : (entries : List Entry) (sessions calls session place : ℕ) (words : List (List ℕ)) (entry : Option Entry) → IsSession sessions session → slice_get entries place ≡ entry → CallFits entries sessions calls (call_at calls words (Some session) (Some place) entry)
call_at_fits entries sessions calls session place words None s e = tt
call_at_fits entries sessions calls session place words (Some entry) s e = call_by entries sessions calls session place entry (arguments_of entry.params words) (call_count_wrong (Some entry) words) (is_call_too_many calls) s e (arguments_fit entry.params words) refl

call_to_fits : (entries : List Entry) (sessions calls : ℕ) (words : List (List ℕ)) (session place : Option ℕ) → IfSome session (λ s. IsSession sessions s) → CallFits entries sessions calls (call_to entries calls words session place)
call_to_fits entries sessions calls words None place s = tt
call_to_fits entries sessions calls words (Some session) None s = tt
call_to_fits entries sessions calls words (Some session) (Some place) s = call_at_fits entries sessions calls session place words (slice_get entries place) s refl

pub call_fits : (entries : List Entry) (sessions calls : ℕ) (words : List (List ℕ)) → CallFits entries sessions calls (judged_call entries sessions calls words)
call_fits entries sessions calls [] = tt
call_fits entries sessions calls (session ∷ []) = tt
call_fits entries sessions calls (session ∷ name ∷ words) =
    elim (is_digits session && is_identifier name && list_all is_value words) as (λ b. CallFits entries sessions calls (if b then call_to entries calls words (within 1 sessions (number session)) (place_of name entries) else Err J1)) [
      | true ↦ call_to_fits entries sessions calls words (within 1 sessions (number session)) (place_of name entries) (within_fits 1 sessions (number session))
      | false ↦ tt
    ]

-- ---- loads

abbrev pub LoadsFit : List (List ℕ) → Result (List (List ℕ)) JobCode → Type 0
LoadsFit loads meaning = IfOk meaning (λ new. (length new ≡ length loads) × AllByRecursion AreReadings new)

abbrev AreLoads : List ℕ → Type 0
AreLoads readings = AllByRecursion (λ reading. reading ≤ full_load) readings

loads_by_room : (loads : List (List ℕ)) (place : ℕ) (load readings : Option (List ℕ)) (full : Bool) → AllByRecursion AreReadings loads → IfSome load AreReadings → IfSome readings AreLoads → are_too_many load readings ≡ full → LoadsFit loads (unless (least_code ((is_absent readings, J4) ∷ (is_absent load, J5) ∷ (full, J20) ∷ [])) (slice_set loads place (unwrap_or load [] ++ unwrap_or readings [])))
loads_by_room loads place load None full all q p n = tt
loads_by_room loads place None (Some readings) full all q p n = tt
loads_by_room loads place (Some load) (Some readings) true all q p n = tt
loads_by_room loads place (Some load) (Some readings) false all q p n =
    let room : length load + length readings < max_readings + 1 = leb-false (max_readings + 1) (length load + length readings) n in
    let short : length (load ++ readings) ≤ max_readings = omega (arith, room, length-append load readings) in
    (length-set loads place (load ++ readings), all_set AreReadings loads place (load ++ readings) all (short, all_append (λ reading. reading ≤ full_load) load readings q.1 p))

load_of_fits : (loads : List (List ℕ)) (session : Option ℕ) → AllByRecursion AreReadings loads → IfSome (load_of loads session) AreReadings
load_of_fits loads None all = tt
load_of_fits loads (Some session) all = all_get AreReadings loads (session - 1) all

are_loads : (readings : Option (List ℕ)) → IfSome readings (λ ms. AllByRecursion (λ m. (0 ≤ m) × (m ≤ full_load)) ms) → IfSome readings AreLoads
are_loads None p = tt
are_loads (Some readings) p = all_map (λ m. (0 ≤ m) × (m ≤ full_load)) (λ m. m ≤ full_load) readings (λ _ q. q.1) p

pub loads_fit : (sessions : ℕ) (loads : List (List ℕ)) (words : List (List ℕ)) → AllByRecursion AreReadings loads → LoadsFit loads (judged_load sessions loads words)
loads_fit sessions loads [] all = tt
loads_fit sessions loads (session ∷ words) all =
    elim (is_digits session && are_digits words) as (λ b. LoadsFit loads (if b then loads_by loads (within 1 sessions (number session)) (numbers_within 0 full_load words) else Err J1)) [
      | true ↦ loads_by_room loads (unwrap_or (within 1 sessions (number session)) 0 - 1) (load_of loads (within 1 sessions (number session))) (numbers_within 0 full_load words) (are_too_many (load_of loads (within 1 sessions (number session))) (numbers_within 0 full_load words)) all (load_of_fits loads (within 1 sessions (number session)) all) (are_loads (numbers_within 0 full_load words) (numbers_fit 0 full_load words)) refl
      | false ↦ tt
    ]

-- ---- the order

abbrev pub OrderFits : ℕ → Result (List ℕ) JobCode → Type 0
OrderFits sessions meaning = IfOk meaning (λ order. AllByRecursion (IsSession sessions) order × (length order ≤ max_order))

all_or_none : (P : ℕ → Type 0) (found : Option (List ℕ)) → IfSome found (λ ms. AllByRecursion P ms) → AllByRecursion P (unwrap_or found [])
all_or_none P None all = tt
all_or_none P (Some ms) all = all

order_by : (sessions : ℕ) (words : List (List ℕ)) (repeated none long : Bool) → is_order_too_long sessions words ≡ long → OrderFits sessions (unless (least_code ((repeated, J3) ∷ (none, J5) ∷ (long, J20) ∷ [])) (sessions_of sessions words))
order_by sessions words true none long n = tt
order_by sessions words false true long n = tt
order_by sessions words false false true n = tt
order_by sessions words false false false n =
    let room : length (sessions_of sessions words) < max_order + 1 = leb-false (max_order + 1) (length (sessions_of sessions words)) n in
    (all_or_none (IsSession sessions) (numbers_within 1 sessions words) (numbers_fit 1 sessions words), omega (arith, room))

pub order_fits : (sessions : ℕ) (repeated : Bool) (words : List (List ℕ)) → OrderFits sessions (judged_order sessions repeated words)
order_fits sessions repeated words =
    elim (are_digits words) as (λ b. OrderFits sessions (if b then unless (least_code (order_rules sessions repeated words)) (sessions_of sessions words) else Err J1)) [
      | true ↦ order_by sessions words repeated (names_no_session sessions words) (is_order_too_long sessions words) refl
      | false ↦ tt
    ]
