-- Pieces that spell a statement are read as that statement.
use Rattle.std.proofs.Common.{◌≡◌, ℕ, ◌+◌, ◌*◌, ◌==◌, Bool, true, false, ◌&&◌, nat_lt, nat_le, List, [], ◌∷◌, ◌++◌, length, map, drop, suc, if◌then◌else◌, refl, ap, ◌∙◌, subst, arith}
use Rattle.std.specs.List.{list_all}
use Rattle.std.specs.Char.{to_ascii_lowercase}
use Rattle.std.proofs.lemmas.Bool.{false≢true}
use Rattle.std.proofs.lemmas.List.{length-map}
use Rattle.px_value.specs.declared.schema.Schema.{Schema}
use Rattle.px_value.specs.declared.schema.Column.{Column}
use Rattle.px_value.specs.declared.statement.Statement.{Statement}
use Rattle.px_value.specs.declared.statement.Statement.TheVariants as s
use Rattle.px_sql.specs.declared.spelling.Word.{Word}
use Rattle.px_sql.specs.declared.spelling.Word.TheVariants.{Keyword, Name, Sign}
use Rattle.px_sql.specs.declared.spelling.Keyword.TheVariants.{Select, From, Where, Update, Set, Insert, Into, Values, Delete}
use Rattle.px_sql.specs.declared.spelling.Sign.TheVariants.{Equal, Mark, Open, Close}
use Rattle.px_sql.specs.Tables.{IsSchema}
use Rattle.px_sql.specs.Words as w
use Rattle.px_sql.specs.Words.{name_of, columns_of, name_at, key, has_place, are_columns, is_other, is_over, IsOver, words_of}
use Rattle.px_sql.specs.Spelling.{is_keyword, fits, fit}
use Rattle.px_sql.specs.Reading.{due_pieces, piece_at, table_place, column_place, places_of, select_of, select_from, likely_select, update_of, likely}
use Rattle.px_sql.proofs.Places.{found, columns_found, columns_differ, column_found, below}
use Rattle.px_sql.proofs.Dues.{fit_length, fit_behind, name_is, dues, names_length, is_quiet}
use Rattle.px_sql.proofs.Truths.{and_first, and_second}

-- ---- the pieces at the front

pub piece_first : (word : Word) (words : List Word) (pieces : List (List ℕ)) → fit (word ∷ words) pieces ≡ true → fits word (piece_at pieces 0) ≡ true
piece_first word words [] h = absurd (false≢true h)
piece_first word words (p ∷ pieces) h = and_first (fits word p) (fit words pieces) h

rest_fits : (word : Word) (words : List Word) (pieces : List (List ℕ)) → fit (word ∷ words) pieces ≡ true → fit words (drop 1 pieces) ≡ true
rest_fits word words [] h = absurd (false≢true h)
rest_fits word words (p ∷ pieces) h = and_second (fits word p) (fit words pieces) h

second_is : (a : Word) (name : List ℕ) (words : List Word) (pieces : List (List ℕ)) → fit (a ∷ Name name ∷ words) pieces ≡ true → piece_at pieces 1 ≡ name
second_is a name words [] h = absurd (false≢true h)
second_is a name words (p ∷ pieces) h = name_is name (piece_at pieces 0) (piece_first (Name name) words pieces (and_second (fits a p) (fit (Name name ∷ words) pieces) h))

third_is : (a b : Word) (name : List ℕ) (words : List Word) (pieces : List (List ℕ)) → fit (a ∷ b ∷ Name name ∷ words) pieces ≡ true → piece_at pieces 2 ≡ name
third_is a b name words [] h = absurd (false≢true h)
third_is a b name words (p ∷ pieces) h = second_is b name words pieces (and_second (fits a p) (fit (b ∷ Name name ∷ words) pieces) h)

fourth_is : (a b c : Word) (name : List ℕ) (words : List Word) (pieces : List (List ℕ)) → fit (a ∷ b ∷ c ∷ Name name ∷ words) pieces ≡ true → piece_at pieces 3 ≡ name
fourth_is a b c name words [] h = absurd (false≢true h)
fourth_is a b c name words (p ∷ pieces) h = third_is b c name words pieces (and_second (fits a p) (fit (b ∷ c ∷ Name name ∷ words) pieces) h)

-- ---- keywords by their first letters

other_letter : (a b lower : ℕ) (more others : Bool) → (a == b) ≡ false → ((a == lower) && more) ≡ true → ((b == lower) && others) ≡ false
other_letter a b lower more others d h = grind (arith, d, h)

no_select_at_update : (piece : List ℕ) → is_keyword Update piece ≡ true → is_keyword Select piece ≡ false
no_select_at_update [] h = absurd (false≢true h)
no_select_at_update (byte ∷ bytes) h = other_letter 117 115 (to_ascii_lowercase byte) _ _ refl h

no_select_at_insert : (piece : List ℕ) → is_keyword Insert piece ≡ true → is_keyword Select piece ≡ false
no_select_at_insert [] h = absurd (false≢true h)
no_select_at_insert (byte ∷ bytes) h = other_letter 105 115 (to_ascii_lowercase byte) _ _ refl h

no_update_at_insert : (piece : List ℕ) → is_keyword Insert piece ≡ true → is_keyword Update piece ≡ false
no_update_at_insert [] h = absurd (false≢true h)
no_update_at_insert (byte ∷ bytes) h = other_letter 105 117 (to_ascii_lowercase byte) _ _ refl h

no_select_at_delete : (piece : List ℕ) → is_keyword Delete piece ≡ true → is_keyword Select piece ≡ false
no_select_at_delete [] h = absurd (false≢true h)
no_select_at_delete (byte ∷ bytes) h = other_letter 100 115 (to_ascii_lowercase byte) _ _ refl h

no_update_at_delete : (piece : List ℕ) → is_keyword Delete piece ≡ true → is_keyword Update piece ≡ false
no_update_at_delete [] h = absurd (false≢true h)
no_update_at_delete (byte ∷ bytes) h = other_letter 100 117 (to_ascii_lowercase byte) _ _ refl h

no_insert_at_delete : (piece : List ℕ) → is_keyword Delete piece ≡ true → is_keyword Insert piece ≡ false
no_insert_at_delete [] h = absurd (false≢true h)
no_insert_at_delete (byte ∷ bytes) h = other_letter 100 105 (to_ascii_lowercase byte) _ _ refl h

-- ---- the first word

abbrev names : List (List ℕ) → List (List ℕ)
names pieces = due_pieces true (drop 1 pieces)

at_select : (schema : Schema) (pieces : List (List ℕ)) → is_keyword Select (piece_at pieces 0) ≡ true → likely schema pieces ≡ likely_select schema (names pieces) (drop (2 * length (names pieces)) pieces)
at_select schema pieces k = rw k refl

at_update : (schema : Schema) (pieces : List (List ℕ)) → is_keyword Update (piece_at pieces 0) ≡ true → likely schema pieces ≡ update_of schema (table_place (piece_at pieces 1) schema.tables) (due_pieces true (drop 3 pieces))
at_update schema pieces k =
    let n : is_keyword Select (piece_at pieces 0) ≡ false = no_select_at_update (piece_at pieces 0) k in
    rw (n, k) refl

at_insert : (schema : Schema) (pieces : List (List ℕ)) → is_keyword Insert (piece_at pieces 0) ≡ true → likely schema pieces ≡ s.Insert (table_place (piece_at pieces 2) schema.tables)
at_insert schema pieces k =
    let n : is_keyword Select (piece_at pieces 0) ≡ false = no_select_at_insert (piece_at pieces 0) k in
    let m : is_keyword Update (piece_at pieces 0) ≡ false = no_update_at_insert (piece_at pieces 0) k in
    rw (n, m, k) refl

at_delete : (schema : Schema) (pieces : List (List ℕ)) → is_keyword Delete (piece_at pieces 0) ≡ true → likely schema pieces ≡ s.Delete (table_place (piece_at pieces 2) schema.tables)
at_delete schema pieces k =
    let n : is_keyword Select (piece_at pieces 0) ≡ false = no_select_at_delete (piece_at pieces 0) k in
    let m : is_keyword Update (piece_at pieces 0) ≡ false = no_update_at_delete (piece_at pieces 0) k in
    let o : is_keyword Insert (piece_at pieces 0) ≡ false = no_insert_at_delete (piece_at pieces 0) k in
    rw (n, m, o) refl

-- ---- selects

record Selects (schema : Schema) (table : ℕ) (columns : List ℕ) (tail : List Word) (pieces : List (List ℕ)) : Type 0 where
  rest : List (List ℕ)
  read : likely schema pieces ≡ select_of (columns_of schema table) table columns rest
  spelled : fit (Keyword From ∷ Name (name_of schema table) ∷ tail) rest ≡ true

selects : (schema : Schema) (table : ℕ) (columns : List ℕ) (tail : List Word) (pieces : List (List ℕ)) → IsSchema schema → has_place schema table ≡ true → are_columns (columns_of schema table) columns ≡ true → list_all is_quiet tail ≡ true → fit (w.select schema table columns tail) pieces ≡ true → Selects schema table columns tail pieces
selects schema table [] tail pieces is t a q h = absurd (false≢true a)
selects schema table (c ∷ cs) tail pieces is t a q h =
    let f : ℕ → List ℕ = name_at (columns_of schema table) in
    let words : List Word = Keyword From ∷ Name (name_of schema table) ∷ tail in
    let k : is_keyword Select (piece_at pieces 0) ≡ true = piece_first (Keyword Select) (w.listed (columns_of schema table) (c ∷ cs) ++ words) pieces h in
    let listed : due_pieces true (drop 1 pieces) ≡ map f (c ∷ cs) = dues f [] words c cs (drop 1 pieces) refl q (rest_fits (Keyword Select) (w.listed (columns_of schema table) (c ∷ cs) ++ words) pieces h) in
    let rest : List (List ℕ) = drop (2 * length (c ∷ cs)) pieces in
    let spelled : fit words rest ≡ true = subst (λ (n : ℕ). fit words (drop n pieces) ≡ true) (names_length f c cs) (fit_behind (Keyword Select ∷ w.listed (columns_of schema table) (c ∷ cs)) words pieces h) in
    let there : table_place (piece_at rest 1) schema.tables ≡ table = ap (λ (n : List ℕ). table_place n schema.tables) (second_is (Keyword From) (name_of schema table) tail rest spelled) ∙ found schema table is t in
    let places : places_of (columns_of schema table) (map f (c ∷ cs)) ≡ c ∷ cs = columns_found (columns_of schema table) (c ∷ cs) (columns_differ schema table is) (and_second (nat_lt 0 (length (c ∷ cs)) && nat_le (length (c ∷ cs)) 255) _ a) in
    let size : 2 * length (map f (c ∷ cs)) ≡ 2 * length (c ∷ cs) = ap (λ (n : ℕ). 2 * n) (length-map (c ∷ cs) f) in
    record {
      rest = rest;
      read = at_select schema pieces k
          ∙ ap (λ (ns : List (List ℕ)). likely_select schema ns (drop (2 * length ns) pieces)) listed
          ∙ ap (λ (n : ℕ). likely_select schema (map f (c ∷ cs)) (drop n pieces)) size
          ∙ ap (λ (n : ℕ). select_from schema n (map f (c ∷ cs)) rest) there
          ∙ ap (λ (ps : List ℕ). select_of (columns_of schema table) table ps rest) places;
      spelled = spelled;
    }

abbrev by_length : (n : ℕ) → ℕ → List ℕ → Statement → Statement
by_length n table columns other = if n == 5 then s.All table columns else if n == 6 then s.ByKey table columns else other

select_read : (schema : Schema) (table : ℕ) (columns : List ℕ) (tail : List Word) (pieces : List (List ℕ)) (on : Selects schema table columns tail pieces) → likely schema pieces ≡ by_length (2 + length tail) table columns (s.ByColumn table columns (column_place (piece_at on.rest 3) (columns_of schema table)))
select_read schema table columns tail pieces on =
    on.read ∙ ap (λ (n : ℕ). by_length n table columns (s.ByColumn table columns (column_place (piece_at on.rest 3) (columns_of schema table)))) (fit_length (Keyword From ∷ Name (name_of schema table) ∷ tail) on.rest on.spelled ∙ two (length tail))
  where
    two : (n : ℕ) → suc (suc n) ≡ 2 + n
    two n = omega arith

-- ---- all of them

pub guessed : (schema : Schema) (statement : Statement) (pieces : List (List ℕ)) → IsSchema schema → IsOver schema statement → fit (words_of schema statement) pieces ≡ true → likely schema pieces ≡ statement
guessed schema (s.ByKey table columns) pieces is over h =
    let t : has_place schema table ≡ true = and_first (has_place schema table) _ over in
    let a : are_columns (columns_of schema table) columns ≡ true = and_second (has_place schema table) _ over in
    let tail : List Word = w.where_equals (key (columns_of schema table)) in
    select_read schema table columns tail pieces (selects schema table columns tail pieces is t a refl h)
guessed schema (s.All table columns) pieces is over h =
    let t : has_place schema table ≡ true = and_first (has_place schema table) _ over in
    let a : are_columns (columns_of schema table) columns ≡ true = and_second (has_place schema table) _ over in
    let tail : List Word = w.in_order_of (key (columns_of schema table)) in
    select_read schema table columns tail pieces (selects schema table columns tail pieces is t a refl h)
guessed schema (s.ByColumn table columns column) pieces is over h =
    let both : (has_place schema table && are_columns (columns_of schema table) columns) ≡ true = and_first (has_place schema table && are_columns (columns_of schema table) columns) _ over in
    let t : has_place schema table ≡ true = and_first (has_place schema table) _ both in
    let a : are_columns (columns_of schema table) columns ≡ true = and_second (has_place schema table) _ both in
    let o : is_other (columns_of schema table) column ≡ true = and_second (has_place schema table && are_columns (columns_of schema table) columns) _ over in
    let last : List Word = Sign Equal ∷ Sign Mark ∷ w.in_order_of (key (columns_of schema table)) in
    let name : List ℕ = name_at (columns_of schema table) column in
    let tail : List Word = Keyword Where ∷ Name name ∷ last in
    let on : Selects schema table columns tail pieces = selects schema table columns tail pieces is t a refl h in
    let place : column_place (piece_at on.rest 3) (columns_of schema table) ≡ column =
    ap (λ (n : List ℕ). column_place n (columns_of schema table)) (fourth_is (Keyword From) (Name (name_of schema table)) (Keyword Where) name last on.rest on.spelled)
    ∙ column_found (columns_of schema table) column (columns_differ schema table is) (below column _ (and_second (nat_lt 0 column) _ o)) in
    select_read schema table columns tail pieces on ∙ ap (λ (n : ℕ). s.ByColumn table columns n) place
guessed schema (s.Update table []) pieces is over h = absurd (false≢true (and_second (has_place schema table) false (and_first (has_place schema table && false) true (and_first (has_place schema table && false && true) true over))))
guessed schema (s.Update table (c ∷ cs)) pieces is over h =
    let columns : List Column = columns_of schema table in
    let f : ℕ → List ℕ = name_at columns in
    let one : ((has_place schema table && are_columns columns (c ∷ cs)) && list_all (λ d. nat_lt 0 d) (c ∷ cs)) ≡ true = and_first ((has_place schema table && are_columns columns (c ∷ cs)) && list_all (λ d. nat_lt 0 d) (c ∷ cs)) _ over in
    let both : (has_place schema table && are_columns columns (c ∷ cs)) ≡ true = and_first (has_place schema table && are_columns columns (c ∷ cs)) _ one in
    let t : has_place schema table ≡ true = and_first (has_place schema table) _ both in
    let a : are_columns columns (c ∷ cs) ≡ true = and_second (has_place schema table) _ both in
    let tail : List Word = w.where_equals (key columns) in
    let set : List Word = Keyword Set ∷ (w.assigned columns (c ∷ cs) ++ tail) in
    let k : is_keyword Update (piece_at pieces 0) ≡ true = piece_first (Keyword Update) (Name (name_of schema table) ∷ set) pieces h in
    let there : table_place (piece_at pieces 1) schema.tables ≡ table = ap (λ (n : List ℕ). table_place n schema.tables) (second_is (Keyword Update) (name_of schema table) set pieces h) ∙ found schema table is t in
    let rest : fit (w.assigned columns (c ∷ cs) ++ tail) (drop 3 pieces) ≡ true = fit_behind (Keyword Update ∷ Name (name_of schema table) ∷ Keyword Set ∷ []) (w.assigned columns (c ∷ cs) ++ tail) pieces h in
    let listed : due_pieces true (drop 3 pieces) ≡ map f (c ∷ cs) = dues f (Sign Equal ∷ Sign Mark ∷ []) tail c cs (drop 3 pieces) refl refl rest in
    let places : places_of columns (map f (c ∷ cs)) ≡ c ∷ cs = columns_found columns (c ∷ cs) (columns_differ schema table is) (and_second (nat_lt 0 (length (c ∷ cs)) && nat_le (length (c ∷ cs)) 255) _ a) in
    at_update schema pieces k
    ∙ ap (λ (n : ℕ). update_of schema n (due_pieces true (drop 3 pieces))) there
    ∙ ap (update_of schema table) listed
    ∙ ap (λ (ps : List ℕ). s.Update table ps) places
guessed schema (s.Insert table) pieces is over h =
    let values : List Word = Keyword Values ∷ Sign Open ∷ (w.marks (columns_of schema table) ++ Sign Close ∷ []) in
    at_insert schema pieces (piece_first (Keyword Insert) (Keyword Into ∷ Name (name_of schema table) ∷ values) pieces h)
    ∙ ap (λ (n : List ℕ). s.Insert (table_place n schema.tables)) (third_is (Keyword Insert) (Keyword Into) (name_of schema table) values pieces h)
    ∙ ap s.Insert (found schema table is over)
guessed schema (s.Delete table) pieces is over h =
    let tail : List Word = w.where_equals (key (columns_of schema table)) in
    at_delete schema pieces (piece_first (Keyword Delete) (Keyword From ∷ Name (name_of schema table) ∷ tail) pieces h)
    ∙ ap (λ (n : List ℕ). s.Delete (table_place n schema.tables)) (third_is (Keyword Delete) (Keyword From) (name_of schema table) tail pieces h)
    ∙ ap s.Delete (found schema table is over)
