-- Numbers and values that words stand for are in range.
use Rattle.std.proofs.Common.{◌≡◌, ℕ, zero, suc, ◌-◌, ◌≤◌, ◌^◌, nat_lt, nat_le, ℤ, pos, negsuc, neg_ℤ, Bool, true, false, ◌&&◌, List, [], ◌∷◌, length, drop, Option, Some, None, IfSome, if◌then◌else◌, refl, arith}
use Rattle.std.specs.List.{AllByRecursion}
use Rattle.std.specs.Option.{option_map, option_and_then}
use Rattle.std.specs.Str.Parse.{starts_with_minus}
use Rattle.std.proofs.lemmas.Bool.{leb-true, lt-ltb, false≢true}
use Rattle.px_outside.specs.Numbers.{number_of, up_to, i64_of}
use Rattle.px_value.specs.declared.ty.Ty.{Ty}
use Rattle.px_value.specs.declared.ty.Ty.TheVariants as types
use Rattle.px_value.specs.declared.schema.Column.{Column}
use Rattle.px_value.specs.declared.schema.ColumnType.{ColumnType}
use Rattle.px_value.specs.declared.schema.ColumnType.TheVariants as columns
use Rattle.px_value.specs.declared.value.Value.{Value}
use Rattle.px_value.specs.declared.value.Value.TheVariants as values
use Rattle.px_job.specs.Texts.{text_of}
use Rattle.px_job.specs.Numbers.{number, within, with_number, numbers_within}
use Rattle.px_value.specs.Limits.{max_text, max_parameter}
use Rattle.px_job.specs.Arguments.{is_null, bool_of, int_from, short_text, argument_of, arguments_of, with_argument}
use Rattle.px_job.specs.Cells.{short_cell, cell_of, cells_of}
use Rattle.px_job.specs.Fitting.{has_bits, has_type, HaveTypes, fits_column, FitColumns}

-- ---- numbers

pub both : (a b : Bool) → (a && b) ≡ true → (a ≡ true) × (b ≡ true)
both true b e = (refl, e)
both false b e = absurd (false≢true e)

within_by : (least most n : ℕ) (fits : Bool) → (nat_le least n && nat_le n most) ≡ fits → IfSome (if fits then Some n else None) (λ m. (least ≤ m) × (m ≤ most))
within_by least most n true e = let b = both (nat_le least n) (nat_le n most) e in (leb-true least n b.0, leb-true n most b.1)
within_by least most n false e = tt

pub within_fits : (least most n : ℕ) → IfSome (within least most n) (λ m. (least ≤ m) × (m ≤ most))
within_fits least most n = within_by least most n (nat_le least n && nat_le n most) refl

more_within : (least most : ℕ) (first : Option ℕ) (more : Option (List ℕ)) → IfSome first (λ m. (least ≤ m) × (m ≤ most)) → IfSome more (λ ms. AllByRecursion (λ m. (least ≤ m) × (m ≤ most)) ms) → IfSome (with_number first more) (λ ms. AllByRecursion (λ m. (least ≤ m) × (m ≤ most)) ms)
more_within least most None more p q = tt
more_within least most (Some m) None p q = tt
more_within least most (Some m) (Some ms) p q = (p, q)

pub numbers_fit : (least most : ℕ) (words : List (List ℕ)) → IfSome (numbers_within least most words) (λ ms. AllByRecursion (λ m. (least ≤ m) × (m ≤ most)) ms)
numbers_fit least most [] = tt
numbers_fit least most (word ∷ words) = more_within least most (within least most (number word)) (numbers_within least most words) (within_fits least most (number word)) (numbers_fit least most words)

up_to_by : (most n : ℕ) (fits : Bool) → nat_le n most ≡ fits → IfSome (if fits then Some n else None) (λ m. m ≤ most)
up_to_by most n true e = leb-true n most e
up_to_by most n false e = tt

up_to_fits : (most : ℕ) (found : Option ℕ) → IfSome (up_to most found) (λ m. m ≤ most)
up_to_fits most None = tt
up_to_fits most (Some n) = up_to_by most n (nat_le n most) refl

positive_fits : (n : ℕ) → n ≤ 2 ^ 63 - 1 → has_bits 63 (pos n) ≡ true
positive_fits n h = lt-ltb n (2 ^ 63) (omega (arith, h))

negative_fits : (n : ℕ) → n ≤ 2 ^ 63 → has_bits 63 (neg_ℤ (pos n)) ≡ true
negative_fits zero h = refl
negative_fits (suc n) h = lt-ltb n (2 ^ 63) (omega (arith, h))

numbers_map : (most : ℕ) (make : ℕ → ℤ) (found : Option ℕ) → IfSome found (λ m. m ≤ most) → ((n : ℕ) → n ≤ most → has_bits 63 (make n) ≡ true) → IfSome (option_map make found) (λ n. has_bits 63 n ≡ true)
numbers_map most make None p each = tt
numbers_map most make (Some n) p each = each n p

pub long_fits : (word : List ℕ) → IfSome (i64_of word) (λ n. has_bits 63 n ≡ true)
long_fits word =
    elim (starts_with_minus word) as (λ b. IfSome (if b then option_map (λ n. neg_ℤ (pos n)) (up_to (2 ^ 63) (number_of (drop 1 word))) else option_map pos (up_to (2 ^ 63 - 1) (number_of word))) (λ n. has_bits 63 n ≡ true)) [
      | true ↦ numbers_map (2 ^ 63) (λ n. neg_ℤ (pos n)) (up_to (2 ^ 63) (number_of (drop 1 word))) (up_to_fits (2 ^ 63) (number_of (drop 1 word))) negative_fits
      | false ↦ numbers_map (2 ^ 63 - 1) pos (up_to (2 ^ 63 - 1) (number_of word)) (up_to_fits (2 ^ 63 - 1) (number_of word)) positive_fits
    ]

int_by : (made : ℤ) (fits : Bool) → has_bits 31 made ≡ fits → IfSome (if fits then Some made else None) (λ n. has_bits 31 n ≡ true)
int_by made true e = e
int_by made false e = tt

int_fits : (found : Option ℤ) → IfSome (option_and_then int_from found) (λ n. has_bits 31 n ≡ true)
int_fits None = tt
int_fits (Some (pos n)) = int_by (pos n) (nat_lt n (2 ^ 31)) refl
int_fits (Some (negsuc n)) = int_by (negsuc n) (nat_lt n (2 ^ 31)) refl

-- ---- values

mapped : {A : Type 0} (P : A → Type 0) (Q : Value → Type 0) (make : A → Value) (found : Option A) → IfSome found P → ((x : A) → P x → Q (make x)) → IfSome (option_map make found) Q
mapped P Q make None p each = tt
mapped P Q make (Some x) p each = each x p

short_by : (most : ℕ) (text : List ℕ) (fits : Bool) → nat_le (length text) most ≡ fits → IfSome (if fits then Some text else None) (λ t. nat_le (length t) most ≡ true)
short_by most text true e = e
short_by most text false e = tt

text_fits : (text : Option (List ℕ)) → IfSome (option_and_then short_text text) (λ t. nat_le (length t) max_text ≡ true)
text_fits None = tt
text_fits (Some text) = short_by max_text text (nat_le (length text) max_text) refl

cell_text_fits : (text : Option (List ℕ)) → IfSome (option_and_then short_cell text) (λ t. nat_le (length t) max_parameter ≡ true)
cell_text_fits None = tt
cell_text_fits (Some text) = short_by max_parameter text (nat_le (length text) max_parameter) refl

bool_fits : (found : Option Bool) → IfSome (option_map values.Bool found) (λ value. has_type types.Bool value ≡ true)
bool_fits None = tt
bool_fits (Some b) = refl

argument_fits : (ty : Ty) (word : List ℕ) → IfSome (argument_of ty word) (λ value. has_type ty value ≡ true)
argument_fits types.Int word = mapped (λ n. has_bits 31 n ≡ true) (λ value. has_type types.Int value ≡ true) values.Int (option_and_then int_from (i64_of word)) (int_fits (i64_of word)) (λ _ p. p)
argument_fits types.Long word = mapped (λ n. has_bits 63 n ≡ true) (λ value. has_type types.Long value ≡ true) values.Long (i64_of word) (long_fits word) (λ _ p. p)
argument_fits types.Bool word = bool_fits (bool_of word)
argument_fits types.Text word = elim (is_null word) as (λ b. IfSome (if b then Some values.Null else option_map values.Text (option_and_then short_text (text_of word))) (λ value. has_type types.Text value ≡ true)) [ true ↦ refl | false ↦ mapped (λ t. nat_le (length t) max_text ≡ true) (λ value. has_type types.Text value ≡ true) values.Text (option_and_then short_text (text_of word)) (text_fits (text_of word)) (λ _ p. p) ]
argument_fits types.Ref word = tt

both_fit : (ty : Ty) (tys : List Ty) (first : Option Value) (more : Option (List Value)) → IfSome first (λ value. has_type ty value ≡ true) → IfSome more (λ values. HaveTypes tys values) → IfSome (with_argument first more) (λ values. HaveTypes (ty ∷ tys) values)
both_fit ty tys None more p q = tt
both_fit ty tys (Some value) None p q = tt
both_fit ty tys (Some value) (Some values) p q = (p, q)

pub arguments_fit : (tys : List Ty) (words : List (List ℕ)) → IfSome (arguments_of tys words) (λ values. HaveTypes tys values)
arguments_fit [] [] = tt
arguments_fit [] (word ∷ words) = tt
arguments_fit (ty ∷ tys) [] = tt
arguments_fit (ty ∷ tys) (word ∷ words) = both_fit ty tys (argument_of ty word) (arguments_of tys words) (argument_fits ty word) (arguments_fit tys words)

cell_fits : (ty : ColumnType) (word : List ℕ) → IfSome (cell_of ty word) (λ value. fits_column ty value ≡ true)
cell_fits columns.Long word = mapped (λ n. has_bits 63 n ≡ true) (λ value. fits_column columns.Long value ≡ true) values.Long (i64_of word) (long_fits word) (λ _ p. p)
cell_fits columns.Text word = mapped (λ t. nat_le (length t) max_parameter ≡ true) (λ value. fits_column columns.Text value ≡ true) values.Text (option_and_then short_cell (text_of word)) (cell_text_fits (text_of word)) (λ _ p. p)

both_cells_fit : (column : Column) (columns : List Column) (first : Option Value) (more : Option (List Value)) → IfSome first (λ value. fits_column column.ty value ≡ true) → IfSome more (λ values. FitColumns columns values) → IfSome (with_argument first more) (λ values. FitColumns (column ∷ columns) values)
both_cells_fit column columns None more p q = tt
both_cells_fit column columns (Some value) None p q = tt
both_cells_fit column columns (Some value) (Some values) p q = (p, q)

pub cells_fit : (columns : List Column) (words : List (List ℕ)) → IfSome (cells_of columns words) (λ values. FitColumns columns values)
cells_fit [] [] = tt
cells_fit [] (word ∷ words) = tt
cells_fit (column ∷ columns) [] = tt
cells_fit (column ∷ columns) (word ∷ words) = both_cells_fit column columns (cell_of column.ty word) (cells_of columns words) (cell_fits column.ty word) (cells_fit columns words)
