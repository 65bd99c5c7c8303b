-- How statements are spelled.
use Rattle.std.specs.Prelude.{◌≡◌, ℕ, ◌==◌, Bool, true, false, not, ◌&&◌, ◌||◌, List, [], ◌∷◌, ◌++◌, codes, Option, MatchOption}
use Rattle.std.specs.List.{list_all}
use Rattle.std.specs.Char.{is_ascii_alphabetic, is_ascii_alphanumeric}
use Rattle.std.specs.Str.{bytes_eq, str_eq_ignore_ascii_case}
use Rattle.px_value.specs.declared.schema.Schema.{Schema}
use Rattle.px_value.specs.declared.schema.Table.{Table}
use Rattle.px_value.specs.declared.statement.Statement.{Statement}
use Rattle.px_sql.specs.declared.spelling.Word.{Word}
use Rattle.px_sql.specs.declared.spelling.Word.TheVariants as w
use Rattle.px_sql.specs.declared.spelling.Keyword.{Keyword}
use Rattle.px_sql.specs.declared.spelling.Keyword.TheVariants.{Select, From, Where, Order, By, Update, Set, Insert, Into, Values, Delete}
use Rattle.px_sql.specs.declared.spelling.Sign.{Sign}
use Rattle.px_sql.specs.declared.spelling.Sign.TheVariants.{Comma, Equal, Mark, Open, Close}
use Rattle.px_sql.specs.Tables.{IsSchema}
use Rattle.px_sql.specs.Words.{IsOver, words_of}

-- ---- bytes

abbrev pub is_space : ℕ → Bool
is_space byte = byte == 32

abbrev pub begins_name : ℕ → Bool
begins_name byte = is_ascii_alphabetic byte || (byte == 95) || (byte == 36)

abbrev pub is_part : ℕ → Bool
is_part byte = is_ascii_alphanumeric byte || (byte == 95) || (byte == 36)

-- a letter, `_` or `$`, and then letters, digits, `_` and `$`
abbrev pub is_identifier : List ℕ → Bool
is_identifier [] = false
is_identifier (byte ∷ bytes) = begins_name byte && list_all is_part bytes

-- ---- pieces

-- letters, digits, `_` and `$`
abbrev pub is_run : List ℕ → Bool
is_run [] = false
is_run (byte ∷ bytes) = list_all is_part (byte ∷ bytes)

-- one byte of another kind
abbrev pub is_single : List ℕ → Bool
is_single (byte ∷ []) = not (is_part byte) && not (is_space byte)
is_single bytes = false

abbrev pub is_piece : List ℕ → Bool
is_piece piece = is_run piece || is_single piece

abbrev pub is_empty : List ℕ → Bool
is_empty [] = true
is_empty bytes = false

-- two runs don't touch
abbrev pub are_apart : List ℕ → List ℕ → List ℕ → Bool
are_apart piece gap next = not (is_run piece && is_run next && is_empty gap)

-- the pieces stand in the text in their order, with spaces between them alone
pub data Written : List (List ℕ) → List ℕ → Type 0 where
  last : {text : List ℕ} → is_piece text ≡ true → Written (text ∷ []) text
  more : {pieces : List (List ℕ)} {text : List ℕ} (piece gap next rest : List ℕ) → is_piece piece ≡ true → list_all is_space gap ≡ true → are_apart piece gap next ≡ true → text ≡ piece ++ (gap ++ rest) → Written (next ∷ pieces) rest → Written (piece ∷ next ∷ pieces) text

-- ---- words

abbrev pub keyword : Keyword → List ℕ
keyword Select = codes "SELECT"
keyword From = codes "FROM"
keyword Where = codes "WHERE"
keyword Order = codes "ORDER"
keyword By = codes "BY"
keyword Update = codes "UPDATE"
keyword Set = codes "SET"
keyword Insert = codes "INSERT"
keyword Into = codes "INTO"
keyword Values = codes "VALUES"
keyword Delete = codes "DELETE"

abbrev pub sign : Sign → List ℕ
sign Comma = codes ","
sign Equal = codes "="
sign Mark = codes "?"
sign Open = codes "("
sign Close = codes ")"

abbrev pub is_keyword : Keyword → List ℕ → Bool
is_keyword k piece = str_eq_ignore_ascii_case (keyword k) piece

abbrev pub is_sign : Sign → List ℕ → Bool
is_sign s piece = bytes_eq (sign s) piece

-- keywords in any case, names exactly
abbrev pub fits : Word → List ℕ → Bool
fits (w.Keyword k) piece = is_keyword k piece
fits (w.Name name) piece = bytes_eq name piece && is_identifier piece
fits (w.Sign s) piece = is_sign s piece

-- word for word
abbrev pub fit : List Word → List (List ℕ) → Bool
fit [] [] = true
fit (word ∷ words) (piece ∷ pieces) = fits word piece && fit words pieces
fit words pieces = false

abbrev pub Spells : List Word → List ℕ → Type 0
Spells words text = (pieces : List (List ℕ)) × Written pieces text × (fit words pieces ≡ true)

-- ---- statements

-- the text spells a statement over the tables
abbrev pub Means : Schema → List ℕ → Statement → Type 0
Means schema text statement = IsOver schema statement × Spells (words_of schema statement) text

-- the statement that the text means, or none where there is none
abbrev pub IsMeaning : Schema → List ℕ → Option Statement → Type 0
IsMeaning schema text told = MatchOption told ((statement : Statement) → Means schema text statement → ⊥) (λ statement. Means schema text statement)

abbrev pub ATextMeansOneStatement : Type 0
ATextMeansOneStatement = (schema : Schema) (text : List ℕ) (one other : Statement) → IsSchema schema → Means schema text one → Means schema text other → one ≡ other

abbrev pub has_identifiers : Table → Bool
has_identifiers table = is_identifier table.name && list_all (λ c. is_identifier c.name) table.columns

-- where tables and columns have identifiers as names, each statement has a text
abbrev pub StatementsAreSpelled : Type 0
StatementsAreSpelled = (schema : Schema) (statement : Statement) → IsSchema schema → list_all has_identifiers schema.tables ≡ true → IsOver schema statement → (text : List ℕ) × Means schema text statement
