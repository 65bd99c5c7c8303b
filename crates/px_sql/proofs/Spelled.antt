-- Each statement has a text: its words with one space between them.
use Rattle.std.proofs.Common.{◌≡◌, ◌<◌, ℕ, Bool, true, false, not, ◌&&◌, nat_lt, nat_le, List, [], ◌∷◌, ◌++◌, length, map, slice_get, suc, zero, refl, ◌∙◌, arith}
use Rattle.std.specs.List.{list_all}
use Rattle.std.specs.Str.{bytes_eq}
use Rattle.std.proofs.lemmas.Bool.{false≢true}
use Rattle.std.proofs.lemmas.List.Folds.{list_all-append}
use Rattle.px_value.specs.declared.schema.Schema.{Schema}
use Rattle.px_value.specs.declared.schema.Table.{Table}
use Rattle.px_value.specs.declared.schema.Column.{Column}
use Rattle.px_value.specs.declared.statement.Statement.{Statement}
use Rattle.px_value.specs.declared.statement.Statement.TheVariants as s
use Rattle.px_sql.specs.declared.spelling.Word.{Word}
use Rattle.px_sql.specs.declared.spelling.Word.TheVariants.{Keyword, Name, Sign}
use Rattle.px_sql.specs.declared.spelling.Keyword.{Keyword as Key}
use Rattle.px_sql.specs.declared.spelling.Keyword.TheVariants.{Select, From, Where, Order, By, Update, Set, Insert, Into, Values, Delete}
use Rattle.px_sql.specs.declared.spelling.Sign.TheVariants.{Comma, Equal, Mark, Open, Close}
use Rattle.px_sql.specs.Tables.{IsSchema, is_table, is_long_first, differ}
use Rattle.px_sql.specs.Words as w
use Rattle.px_sql.specs.Words.{table_name, table_columns, name_of, columns_of, name_at, key, behind_commas, separated, has_place, are_columns, is_other, IsOver, words_of}
use Rattle.px_sql.specs.Spelling.{is_part, begins_name, is_identifier, is_run, is_piece, keyword, sign, fits, fit, Written, last, more, Spells, has_identifiers, StatementsAreSpelled}
use Rattle.px_sql.proofs.Places.{same_name, below}
use Rattle.px_sql.proofs.Meanings.{some_words}
use Rattle.px_sql.proofs.Truths.{and_first, and_second, both_of}

-- ---- words

abbrev spell : Word → List ℕ
spell (Keyword k) = keyword k
spell (Name name) = name
spell (Sign s) = sign s

-- a word whose name is an identifier
abbrev is_sound : Word → Bool
is_sound (Name name) = is_identifier name
is_sound word = true

keyword_fits : (k : Key) → fits (Keyword k) (keyword k) ≡ true
keyword_fits Select = refl
keyword_fits From = refl
keyword_fits Where = refl
keyword_fits Order = refl
keyword_fits By = refl
keyword_fits Update = refl
keyword_fits Set = refl
keyword_fits Insert = refl
keyword_fits Into = refl
keyword_fits Values = refl
keyword_fits Delete = refl

word_fits : (word : Word) → is_sound word ≡ true → fits word (spell word) ≡ true
word_fits (Keyword k) h = keyword_fits k
word_fits (Name name) h = both_of (bytes_eq name name) (is_identifier name) (same_name name) h
word_fits (Sign Comma) h = refl
word_fits (Sign Equal) h = refl
word_fits (Sign Mark) h = refl
word_fits (Sign Open) h = refl
word_fits (Sign Close) h = refl

begin_is_part : (byte : ℕ) → begins_name byte ≡ true → is_part byte ≡ true
begin_is_part byte h = grind (arith, h)

identifier_is_run : (name : List ℕ) → is_identifier name ≡ true → is_run name ≡ true
identifier_is_run [] h = h
identifier_is_run (byte ∷ bytes) h = both_of (is_part byte) (list_all is_part bytes) (begin_is_part byte (and_first (begins_name byte) (list_all is_part bytes) h)) (and_second (begins_name byte) (list_all is_part bytes) h)

name_is_piece : (name : List ℕ) → is_identifier name ≡ true → is_piece name ≡ true
name_is_piece name h = rw (identifier_is_run name h) refl

keyword_is_piece : (k : Key) → is_piece (keyword k) ≡ true
keyword_is_piece Select = refl
keyword_is_piece From = refl
keyword_is_piece Where = refl
keyword_is_piece Order = refl
keyword_is_piece By = refl
keyword_is_piece Update = refl
keyword_is_piece Set = refl
keyword_is_piece Insert = refl
keyword_is_piece Into = refl
keyword_is_piece Values = refl
keyword_is_piece Delete = refl

word_is_piece : (word : Word) → is_sound word ≡ true → is_piece (spell word) ≡ true
word_is_piece (Keyword k) h = keyword_is_piece k
word_is_piece (Name name) h = name_is_piece name h
word_is_piece (Sign Comma) h = refl
word_is_piece (Sign Equal) h = refl
word_is_piece (Sign Mark) h = refl
word_is_piece (Sign Open) h = refl
word_is_piece (Sign Close) h = refl

words_fit : (words : List Word) → list_all is_sound words ≡ true → fit words (map spell words) ≡ true
words_fit [] h = refl
words_fit (word ∷ words) h = both_of (fits word (spell word)) (fit words (map spell words)) (word_fits word (and_first (is_sound word) (list_all is_sound words) h)) (words_fit words (and_second (is_sound word) (list_all is_sound words) h))

-- the words behind a first one, with one space between any two
abbrev joined : List ℕ → List Word → List ℕ
joined first [] = first
joined first (word ∷ words) = first ++ (32 ∷ joined (spell word) words)

apart_by_space : (a b : Bool) → not (a && b && false) ≡ true
apart_by_space true true = refl
apart_by_space true false = refl
apart_by_space false b = refl

join_written : (first : List ℕ) (words : List Word) → is_piece first ≡ true → list_all is_sound words ≡ true → Written (first ∷ map spell words) (joined first words)
join_written first [] p h = last p
join_written first (word ∷ words) p h =
    more first (32 ∷ []) (spell word) (joined (spell word) words) p refl (apart_by_space (is_run first) (is_run (spell word))) refl
    (join_written (spell word) words (word_is_piece word (and_first (is_sound word) (list_all is_sound words) h)) (and_second (is_sound word) (list_all is_sound words) h))

spells : (word : Word) (words : List Word) → list_all is_sound (word ∷ words) ≡ true → (text : List ℕ) × Spells (word ∷ words) text
spells word words h =
    (joined (spell word) words, (map spell (word ∷ words), join_written (spell word) words (word_is_piece word (and_first (is_sound word) (list_all is_sound words) h)) (and_second (is_sound word) (list_all is_sound words) h), words_fit (word ∷ words) h))

-- ---- names

column_named : (columns : List Column) (n : ℕ) → list_all (λ c. is_identifier c.name) columns ≡ true → n < length columns → is_identifier (name_at columns n) ≡ true
column_named [] n h l = absurd (omega arith)
column_named (c ∷ cs) zero h l = and_first (is_identifier c.name) _ h
column_named (c ∷ cs) (suc n) h l = column_named cs n (and_second (is_identifier c.name) _ h) (omega arith)

record Named (name : List ℕ) (columns : List Column) : Type 0 where
  table : is_identifier name ≡ true
  columns_are : list_all (λ c. is_identifier c.name) columns ≡ true
  some : 0 < length columns

some_columns : (columns : List Column) → is_long_first columns ≡ true → 0 < length columns
some_columns [] h = absurd (false≢true h)
some_columns (c ∷ cs) h = omega arith

table_named : (tables : List Table) (n : ℕ) → list_all has_identifiers tables ≡ true → list_all (λ t. is_table t.columns) tables ≡ true → n < length tables → Named (table_name (slice_get tables n)) (table_columns (slice_get tables n))
table_named [] n h k l = absurd (omega arith)
table_named (t ∷ ts) zero h k l =
    let one : has_identifiers t ≡ true = and_first (has_identifiers t) (list_all has_identifiers ts) h in
    let kept : is_table t.columns ≡ true = and_first (is_table t.columns) _ k in
    record {
      table = and_first (is_identifier t.name) _ one;
      columns_are = and_second (is_identifier t.name) _ one;
      some = some_columns t.columns (and_second (nat_le (length t.columns) 16) _ (and_first (nat_le (length t.columns) 16 && is_long_first t.columns) (differ t.columns) kept));
    }
table_named (t ∷ ts) (suc n) h k l = table_named ts n (and_second (has_identifiers t) (list_all has_identifiers ts) h) (and_second (is_table t.columns) _ k) (omega arith)

-- ---- lists

behind_sound : {A : Type 0} (item : A → List Word) (xs : List A) → list_all (λ x. list_all is_sound (item x)) xs ≡ true → list_all is_sound (behind_commas (map item xs)) ≡ true
behind_sound item [] h = refl
behind_sound item (x ∷ xs) h =
    list_all-append is_sound (item x) (behind_commas (map item xs))
    ∙ both_of _ _ (and_first (list_all is_sound (item x)) _ h) (behind_sound item xs (and_second (list_all is_sound (item x)) _ h))

list_sound : {A : Type 0} (item : A → List Word) (xs : List A) → list_all (λ x. list_all is_sound (item x)) xs ≡ true → list_all is_sound (separated (map item xs)) ≡ true
list_sound item [] h = refl
list_sound item (x ∷ xs) h =
    list_all-append is_sound (item x) (behind_commas (map item xs))
    ∙ both_of _ _ (and_first (list_all is_sound (item x)) _ h) (behind_sound item xs (and_second (list_all is_sound (item x)) _ h))

names_sound : (columns : List Column) (extra : List Word) (places : List ℕ) → list_all (λ c. is_identifier c.name) columns ≡ true → list_all is_sound extra ≡ true → list_all (λ c. nat_lt c (length columns)) places ≡ true → list_all (λ c. list_all is_sound (Name (name_at columns c) ∷ extra)) places ≡ true
names_sound columns extra [] n e h = refl
names_sound columns extra (c ∷ cs) n e h =
    both_of _ _ (both_of _ _ (column_named columns c n (below c _ (and_first (nat_lt c (length columns)) _ h))) e) (names_sound columns extra cs n e (and_second (nat_lt c (length columns)) _ h))

marks_sound : (columns : List Column) → list_all (λ c. list_all is_sound (Sign Mark ∷ [])) columns ≡ true
marks_sound [] = refl
marks_sound (c ∷ cs) = marks_sound cs

-- ---- statements

key_sound : (columns : List Column) (name : List ℕ) → is_identifier name ≡ true → list_all is_sound (w.where_equals name) ≡ true
key_sound columns name h = both_of (is_identifier name) true h refl

order_sound : (name : List ℕ) → is_identifier name ≡ true → list_all is_sound (w.in_order_of name) ≡ true
order_sound name h = both_of (is_identifier name) true h refl

select_sound : (schema : Schema) (table : ℕ) (columns : List ℕ) (tail : List Word) → Named (name_of schema table) (columns_of schema table) → are_columns (columns_of schema table) columns ≡ true → list_all is_sound tail ≡ true → list_all is_sound (w.select schema table columns tail) ≡ true
select_sound schema table columns tail is a t =
    list_all-append is_sound (w.listed (columns_of schema table) columns) (Keyword From ∷ Name (name_of schema table) ∷ tail)
    ∙ both_of _ _
    (list_sound (λ c. w.named (name_at (columns_of schema table) c)) columns (names_sound (columns_of schema table) [] columns is.columns_are refl (and_second (nat_lt 0 (length columns) && nat_le (length columns) 255) _ a)))
    (both_of (is_identifier (name_of schema table)) _ is.table t)

named_at : (schema : Schema) (table : ℕ) → IsSchema schema → list_all has_identifiers schema.tables ≡ true → has_place schema table ≡ true → Named (name_of schema table) (columns_of schema table)
named_at schema table is h t = table_named schema.tables table h is.all (below table _ t)

key_named : (name : List ℕ) (columns : List Column) → Named name columns → is_identifier (key columns) ≡ true
key_named name columns is = column_named columns 0 is.columns_are is.some

sound : (schema : Schema) (statement : Statement) → IsSchema schema → list_all has_identifiers schema.tables ≡ true → IsOver schema statement → list_all is_sound (words_of schema statement) ≡ true
sound schema (s.ByKey table columns) is h over =
    let at : Named (name_of schema table) (columns_of schema table) = named_at schema table is h (and_first (has_place schema table) _ over) in
    select_sound schema table columns _ at (and_second (has_place schema table) _ over) (key_sound (columns_of schema table) (key (columns_of schema table)) (key_named _ _ at))
sound schema (s.All table columns) is h over =
    let at : Named (name_of schema table) (columns_of schema table) = named_at schema table is h (and_first (has_place schema table) _ over) in
    select_sound schema table columns _ at (and_second (has_place schema table) _ over) (order_sound (key (columns_of schema table)) (key_named _ _ at))
sound schema (s.ByColumn table columns column) is h over =
    let both : (has_place schema table && are_columns (columns_of schema table) columns) ≡ true = and_first (has_place schema table && are_columns (columns_of schema table) columns) _ over in
    let o : is_other (columns_of schema table) column ≡ true = and_second (has_place schema table && are_columns (columns_of schema table) columns) _ over in
    let at : Named (name_of schema table) (columns_of schema table) = named_at schema table is h (and_first (has_place schema table) _ both) in
    let name : is_identifier (name_at (columns_of schema table) column) ≡ true = column_named (columns_of schema table) column at.columns_are (below column _ (and_second (nat_lt 0 column) _ o)) in
    select_sound schema table columns _ at (and_second (has_place schema table) _ both) (both_of (is_identifier (name_at (columns_of schema table) column)) _ name (order_sound (key (columns_of schema table)) (key_named _ _ at)))
sound schema (s.Update table columns) is h over =
    let one : ((has_place schema table && are_columns (columns_of schema table) columns) && list_all (λ d. nat_lt 0 d) columns) ≡ true = and_first ((has_place schema table && are_columns (columns_of schema table) columns) && list_all (λ d. nat_lt 0 d) columns) _ over in
    let both : (has_place schema table && are_columns (columns_of schema table) columns) ≡ true = and_first (has_place schema table && are_columns (columns_of schema table) columns) _ one in
    let a : are_columns (columns_of schema table) columns ≡ true = and_second (has_place schema table) _ both in
    let at : Named (name_of schema table) (columns_of schema table) = named_at schema table is h (and_first (has_place schema table) _ both) in
    both_of (is_identifier (name_of schema table)) _ at.table
    (list_all-append is_sound (w.assigned (columns_of schema table) columns) (w.where_equals (key (columns_of schema table)))
    ∙ both_of _ _
    (list_sound (λ c. w.equals (name_at (columns_of schema table) c)) columns (names_sound (columns_of schema table) (Sign Equal ∷ Sign Mark ∷ []) columns at.columns_are refl (and_second (nat_lt 0 (length columns) && nat_le (length columns) 255) _ a)))
    (key_sound (columns_of schema table) (key (columns_of schema table)) (key_named _ _ at)))
sound schema (s.Insert table) is h over =
    let at : Named (name_of schema table) (columns_of schema table) = named_at schema table is h over in
    both_of (is_identifier (name_of schema table)) _ at.table
    (list_all-append is_sound (w.marks (columns_of schema table)) (Sign Close ∷ [])
    ∙ both_of _ true (list_sound (λ c. Sign Mark ∷ []) (columns_of schema table) (marks_sound (columns_of schema table))) refl)
sound schema (s.Delete table) is h over =
    let at : Named (name_of schema table) (columns_of schema table) = named_at schema table is h over in
    both_of (is_identifier (name_of schema table)) _ at.table (key_sound (columns_of schema table) (key (columns_of schema table)) (key_named _ _ at))

spelled : (schema : Schema) (statement : Statement) (words : List Word) → words_of schema statement ≡ words → (fit words [] ≡ true → false ≡ true) → list_all is_sound words ≡ true → (text : List ℕ) × Spells words text
spelled schema statement [] e some h = absurd (false≢true (some refl))
spelled schema statement (word ∷ words) e some h = spells word words h

pub all_spelled : StatementsAreSpelled
all_spelled schema statement is h over =
    let text : (text : List ℕ) × Spells (words_of schema statement) text = spelled schema statement (words_of schema statement) refl (some_words schema statement) (sound schema statement is h over) in
    (text.0, (over, text.1))
