-- What a text means.
use Rattle.std.proofs.Common.{◌≡◌, ◌≢◌, ℕ, ◌≤◌, nat_le, Bool, true, false, ◌&&◌, List, [], ◌∷◌, length, Option, Some, None, refl, ap, sym, ◌∙◌, subst, arith}
use Rattle.std.proofs.lemmas.Bool.{false≢true}
use Rattle.px_value.specs.declared.schema.Schema.{Schema}
use Rattle.px_value.specs.declared.statement.Statement.{Statement}
use Rattle.px_value.specs.declared.statement.Statement.TheVariants as s
use Rattle.px_value.specs.declared.schema.Table.{Table}
use Rattle.std.specs.List.{list_all}
use Rattle.px_sql.specs.Tables.{IsSchema, is_small, is_table, is_long_first, differ, max_tables, max_columns}
use Rattle.px_sql.specs.Words.{is_over, words_of}
use Rattle.px_sql.specs.Spelling.{fit, Means, IsMeaning, ATextMeansOneStatement}
use Rattle.px_sql.specs.Reading.{is_trimmed, pieces_of, likely, statement_if, if_spelled, spelled_in, statement_of, TextsAreRead}
use Rattle.px_sql.proofs.Written.{pieces_written, trimmed_written, written_pieces}
use Rattle.px_sql.proofs.Guessed.{guessed}
use Rattle.px_sql.proofs.Truths.{and_first, and_second, not_both}

-- a statement has words
pub some_words : (schema : Schema) (statement : Statement) → fit (words_of schema statement) [] ≡ true → false ≡ true
some_words schema (s.ByKey table columns) h = h
some_words schema (s.ByColumn table columns column) h = h
some_words schema (s.All table columns) h = h
some_words schema (s.Update table columns) h = h
some_words schema (s.Insert table) h = h
some_words schema (s.Delete table) h = h

some_text : (schema : Schema) (statement : Statement) (text : List ℕ) → fit (words_of schema statement) (pieces_of text) ≡ true → text ≢ []
some_text schema statement text h e = false≢true (some_words schema statement (subst (λ (t : List ℕ). fit (words_of schema statement) (pieces_of t) ≡ true) e h))

pub meant : (schema : Schema) (statement : Statement) (text : List ℕ) → is_trimmed text ≡ true → is_over schema statement ≡ true → fit (words_of schema statement) (pieces_of text) ≡ true → Means schema text statement
meant schema statement text t o h = (o, (pieces_of text, written_pieces text (some_text schema statement text h) t, h))

fit_meant : (schema : Schema) (statement : Statement) (text : List ℕ) → Means schema text statement → fit (words_of schema statement) (pieces_of text) ≡ true
fit_meant schema statement text m = ap (fit (words_of schema statement)) (pieces_written m.1.0 text m.1.1) ∙ m.1.2

pub only : (schema : Schema) (text : List ℕ) (statement : Statement) → IsSchema schema → Means schema text statement → likely schema (pieces_of text) ≡ statement
only schema text statement is m = guessed schema statement (pieces_of text) is m.0 (fit_meant schema statement text m)

pub one_statement : ATextMeansOneStatement
one_statement schema text one other is m n = sym (only schema text one is m) ∙ only schema text other is n

pub none_untrimmed : (schema : Schema) (text : List ℕ) → is_trimmed text ≡ false → (statement : Statement) → Means schema text statement → ⊥
none_untrimmed schema text h statement m = false≢true (sym h ∙ trimmed_written m.1.0 text m.1.1)

-- ---- what the code finds

pub untrimmed : (schema : Schema) (text : List ℕ) → is_trimmed text ≡ false → None ≡ spelled_in schema text
untrimmed schema text t = rw t refl

trimmed : (schema : Schema) (text : List ℕ) → is_trimmed text ≡ true → if_spelled schema (pieces_of text) (likely schema (pieces_of text)) ≡ spelled_in schema text
trimmed schema text t = rw t refl

-- where the pieces, and the statement that they may spell, were found
pub judged : (schema : Schema) (text : List ℕ) (pieces : List (List ℕ)) (read : Statement) → is_trimmed text ≡ true → pieces ≡ pieces_of text → read ≡ likely schema pieces → if_spelled schema pieces read ≡ spelled_in schema text
judged schema text pieces read t p r =
    ap (if_spelled schema pieces) r ∙ ap (λ (ps : List (List ℕ)). if_spelled schema ps (likely schema ps)) p ∙ trimmed schema text t

pub not_over : (schema : Schema) (pieces : List (List ℕ)) (read : Statement) → is_over schema read ≡ false → None ≡ if_spelled schema pieces read
not_over schema pieces read o = rw o refl

pub not_spelled : (schema : Schema) (pieces : List (List ℕ)) (read : Statement) → fit (words_of schema read) pieces ≡ false → None ≡ if_spelled schema pieces read
not_spelled schema pieces read f = ap (λ (b : Bool). statement_if b read) (sym (ap (λ (b : Bool). is_over schema read && b) f ∙ not_both (is_over schema read)))

pub spelled : (schema : Schema) (pieces : List (List ℕ)) (read : Statement) → is_over schema read ≡ true → fit (words_of schema read) pieces ≡ true → Some read ≡ if_spelled schema pieces read
spelled schema pieces read o f = rw (o, f) refl

-- ---- what is read is what is meant

none_by : (schema : Schema) (text : List ℕ) (read : Statement) → IsSchema schema → read ≡ likely schema (pieces_of text) → (is_over schema read && fit (words_of schema read) (pieces_of text)) ≡ false → (statement : Statement) → Means schema text statement → ⊥
none_by schema text read is r h statement m =
    let same : read ≡ statement = r ∙ only schema text statement is m in
    let both : (is_over schema statement && fit (words_of schema statement) (pieces_of text)) ≡ true = rw m.0 (fit_meant schema statement text m) in
    false≢true (sym h ∙ ap (λ (s : Statement). is_over schema s && fit (words_of schema s) (pieces_of text)) same ∙ both)

meaning_by : (ok : Bool) (schema : Schema) (text : List ℕ) (read : Statement) → IsSchema schema → is_trimmed text ≡ true → read ≡ likely schema (pieces_of text) → (is_over schema read && fit (words_of schema read) (pieces_of text)) ≡ ok → IsMeaning schema text (statement_if ok read)
meaning_by true schema text read is t r h = meant schema read text t (and_first (is_over schema read) _ h) (and_second (is_over schema read) _ h)
meaning_by false schema text read is t r h = none_by schema text read is r h

text_is_read : (trim : Bool) (schema : Schema) (text : List ℕ) → is_trimmed text ≡ trim → IsSchema schema → IsMeaning schema text (spelled_in schema text)
text_is_read true schema text t is =
    let read : Statement = likely schema (pieces_of text) in
    subst (IsMeaning schema text) (trimmed schema text t) (meaning_by (is_over schema read && fit (words_of schema read) (pieces_of text)) schema text read is t refl refl)
text_is_read false schema text t is = subst (IsMeaning schema text) (untrimmed schema text t) (none_untrimmed schema text t)

-- tables that keep the rule are no more than it allows
few_by : (n : ℕ) → n ≤ 100 → nat_le n max_tables ≡ true
few_by n h = grind (arith, h)

columns_few : (tables : List Table) → list_all (λ t. is_table t.columns) tables ≡ true → list_all (λ t. nat_le (length t.columns) max_columns) tables ≡ true
columns_few [] h = refl
columns_few (t ∷ ts) h =
    let one : is_table t.columns ≡ true = and_first (is_table t.columns) _ h in
    let few : nat_le (length t.columns) max_columns ≡ true = and_first (nat_le (length t.columns) max_columns) (is_long_first t.columns) (and_first (nat_le (length t.columns) max_columns && is_long_first t.columns) (differ t.columns) one) in
    rw few (columns_few ts (and_second (is_table t.columns) _ h))

schema_small : (schema : Schema) → IsSchema schema → is_small schema ≡ true
schema_small schema is = rw (few_by (length schema.tables) is.few) (columns_few schema.tables is.all)

small_spelled : (schema : Schema) (text : List ℕ) → is_small schema ≡ true → spelled_in schema text ≡ statement_of schema text
unfolding statement_of
small_spelled schema text small = rw small refl

pub texts_are_read : TextsAreRead
texts_are_read schema text is = subst (IsMeaning schema text) (small_spelled schema text (schema_small schema is)) (text_is_read (is_trimmed text) schema text refl is)
