-- How a text is read: its pieces, and the one statement that they may spell.
use Rattle.std.specs.Prelude.{ℕ, ◌+◌, ◌*◌, ◌==◌, Bool, true, false, not, ◌&&◌, List, [], ◌∷◌, length, map, drop, slice_get, Option, Some, None, if◌then◌else◌}
use Rattle.std.specs.Str.{bytes_eq}
use Rattle.px_value.specs.declared.schema.Schema.{Schema}
use Rattle.px_value.specs.declared.schema.Table.{Table}
use Rattle.px_value.specs.declared.schema.Column.{Column}
use Rattle.px_value.specs.declared.statement.Statement.{Statement}
use Rattle.px_value.specs.declared.statement.Statement.TheVariants as s
use Rattle.px_sql.specs.declared.spelling.Keyword.TheVariants.{Select, Update, Insert}
use Rattle.px_sql.specs.declared.spelling.Sign.TheVariants.{Comma}
use Rattle.px_sql.specs.Tables.{IsSchema, is_small}
use Rattle.px_sql.specs.Words.{columns_of, is_over, words_of}
use Rattle.px_sql.specs.Spelling.{is_space, is_part, is_keyword, is_sign, fit, IsMeaning}

-- ---- pieces

abbrev pub begins_with_part : List ℕ → Bool
begins_with_part [] = false
begins_with_part (byte ∷ bytes) = is_part byte

abbrev pub with_byte : ℕ → List (List ℕ) → List (List ℕ)
with_byte byte [] = (byte ∷ []) ∷ []
with_byte byte (piece ∷ pieces) = (byte ∷ piece) ∷ pieces

-- the longest runs, and each other byte that is no space
abbrev pub pieces_of : List ℕ → List (List ℕ)
pieces_of [] = []
pieces_of (byte ∷ bytes) = if is_space byte then pieces_of bytes else if is_part byte && begins_with_part bytes then with_byte byte (pieces_of bytes) else (byte ∷ []) ∷ pieces_of bytes

abbrev pub begins_with_space : List ℕ → Bool
begins_with_space [] = false
begins_with_space (byte ∷ bytes) = is_space byte

-- whether a space is last, by whether one stood last before
abbrev pub ends_with_space : Bool → List ℕ → Bool
ends_with_space last [] = last
ends_with_space last (byte ∷ bytes) = ends_with_space (is_space byte) bytes

-- no space is first or last
abbrev pub is_trimmed : List ℕ → Bool
is_trimmed text = not (begins_with_space text) && not (ends_with_space false text)

-- ---- the statement

abbrev pub piece_of : Option (List ℕ) → List ℕ
piece_of None = []
piece_of (Some piece) = piece

abbrev pub piece_at : List (List ℕ) → ℕ → List ℕ
piece_at pieces index = piece_of (slice_get pieces index)

-- the places of names; that behind the last where there is no such name
abbrev pub table_place : List ℕ → List Table → ℕ
table_place name [] = 0
table_place name (t ∷ ts) = if bytes_eq name t.name then 0 else table_place name ts + 1

abbrev pub column_place : List ℕ → List Column → ℕ
column_place name [] = 0
column_place name (c ∷ cs) = if bytes_eq name c.name then 0 else column_place name cs + 1

-- each piece behind a comma, and the first one where it is due
abbrev pub due_pieces : Bool → List (List ℕ) → List (List ℕ)
due_pieces due [] = []
due_pieces true (piece ∷ pieces) = piece ∷ due_pieces (is_sign Comma piece) pieces
due_pieces false (piece ∷ pieces) = due_pieces (is_sign Comma piece) pieces

abbrev pub places_of : List Column → List (List ℕ) → List ℕ
places_of columns names = map (λ name. column_place name columns) names

-- by what stands behind the list of columns, from FROM on
abbrev pub select_of : List Column → ℕ → List ℕ → List (List ℕ) → Statement
select_of columns table places rest = if length rest == 5 then s.All table places else if length rest == 6 then s.ByKey table places else s.ByColumn table places (column_place (piece_at rest 3) columns)

abbrev pub select_from : Schema → ℕ → List (List ℕ) → List (List ℕ) → Statement
select_from schema table names rest = select_of (columns_of schema table) table (places_of (columns_of schema table) names) rest

abbrev pub likely_select : Schema → List (List ℕ) → List (List ℕ) → Statement
likely_select schema names rest = select_from schema (table_place (piece_at rest 1) schema.tables) names rest

abbrev pub update_of : Schema → ℕ → List (List ℕ) → Statement
update_of schema table names = s.Update table (places_of (columns_of schema table) names)

-- if the pieces spell a statement, they spell this one
abbrev pub likely : Schema → List (List ℕ) → Statement
likely schema pieces =
    if is_keyword Select (piece_at pieces 0) then likely_select schema (due_pieces true (drop 1 pieces)) (drop (2 * length (due_pieces true (drop 1 pieces))) pieces)
    else if is_keyword Update (piece_at pieces 0) then update_of schema (table_place (piece_at pieces 1) schema.tables) (due_pieces true (drop 3 pieces))
    else if is_keyword Insert (piece_at pieces 0) then s.Insert (table_place (piece_at pieces 2) schema.tables)
    else s.Delete (table_place (piece_at pieces 2) schema.tables)

abbrev pub statement_if : Bool → Statement → Option Statement
statement_if true statement = Some statement
statement_if false statement = None

abbrev pub if_spelled : Schema → List (List ℕ) → Statement → Option Statement
if_spelled schema pieces statement = statement_if (is_over schema statement && fit (words_of schema statement) pieces) statement

abbrev pub spelled_in : Schema → List ℕ → Option Statement
spelled_in schema text = if is_trimmed text then if_spelled schema (pieces_of text) (likely schema (pieces_of text)) else None

-- the statement that a text means; over more tables or columns than the rule allows it means none
unfoldable pub statement_of : Schema → List ℕ → Option Statement
statement_of schema text = if is_small schema then spelled_in schema text else None

-- what is read is what is meant
abbrev pub TextsAreRead : Type 0
TextsAreRead = (schema : Schema) (text : List ℕ) → IsSchema schema → IsMeaning schema text (statement_of schema text)
