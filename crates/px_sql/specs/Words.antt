-- The words of a statement. Tables and columns go by their places.
use Rattle.std.specs.Prelude.{◌≡◌, ℕ, ◌==◌, nat_lt, nat_le, Bool, true, not, ◌&&◌, List, [], ◌∷◌, ◌++◌, length, map, slice_get, Option, Some, None}
use Rattle.std.specs.List.{list_all, list_any}
use Rattle.px_value.specs.declared.schema.Schema.{Schema}
use Rattle.px_value.specs.declared.schema.Table.{Table}
use Rattle.px_value.specs.declared.schema.Column.{Column}
use Rattle.px_value.specs.declared.statement.Statement.{Statement}
use Rattle.px_value.specs.declared.statement.Statement.TheVariants as s
use Rattle.px_sql.specs.declared.spelling.Word.{Word}
use Rattle.px_sql.specs.declared.spelling.Word.TheVariants.{Keyword, Name, Sign}
use Rattle.px_sql.specs.declared.spelling.Keyword.TheVariants.{Select, From, Where, Order, By, Update, Set, Insert, Into, Values, Delete}
use Rattle.px_sql.specs.declared.spelling.Sign.TheVariants.{Comma, Equal, Mark, Open, Close}

-- ---- names and columns by their places

abbrev pub table_name : Option Table → List ℕ
table_name None = []
table_name (Some t) = t.name

abbrev pub table_columns : Option Table → List Column
table_columns None = []
table_columns (Some t) = t.columns

abbrev pub column_name : Option Column → List ℕ
column_name None = []
column_name (Some c) = c.name

abbrev pub name_of : Schema → ℕ → List ℕ
name_of schema table = table_name (slice_get schema.tables table)

abbrev pub columns_of : Schema → ℕ → List Column
columns_of schema table = table_columns (slice_get schema.tables table)

abbrev pub name_at : List Column → ℕ → List ℕ
name_at columns column = column_name (slice_get columns column)

abbrev pub key : List Column → List ℕ
key columns = name_at columns 0

-- ---- which statements there are over some tables

abbrev pub max_listed : ℕ
max_listed = 255

abbrev pub has_place : Schema → ℕ → Bool
has_place schema table = nat_lt table (length schema.tables)

-- from 1 to 255 columns of a table
abbrev pub are_columns : List Column → List ℕ → Bool
are_columns columns places = nat_lt 0 (length places) && nat_le (length places) max_listed && list_all (λ c. nat_lt c (length columns)) places

-- a column that isn't the key
abbrev pub is_other : List Column → ℕ → Bool
is_other columns column = nat_lt 0 column && nat_lt column (length columns)

abbrev pub places_differ : List ℕ → Bool
places_differ [] = true
places_differ (c ∷ cs) = not (list_any (λ d. d == c) cs) && places_differ cs

abbrev pub is_over : Schema → Statement → Bool
is_over schema (s.ByKey table columns) = has_place schema table && are_columns (columns_of schema table) columns
is_over schema (s.ByColumn table columns column) = has_place schema table && are_columns (columns_of schema table) columns && is_other (columns_of schema table) column
is_over schema (s.All table columns) = has_place schema table && are_columns (columns_of schema table) columns
is_over schema (s.Update table columns) = has_place schema table && are_columns (columns_of schema table) columns && list_all (λ c. nat_lt 0 c) columns && places_differ columns
is_over schema (s.Insert table) = has_place schema table
is_over schema (s.Delete table) = has_place schema table

abbrev pub IsOver : Schema → Statement → Type 0
IsOver schema statement = is_over schema statement ≡ true

-- ---- how statements are worded

abbrev pub behind_commas : List (List Word) → List Word
behind_commas [] = []
behind_commas (x ∷ xs) = Sign Comma ∷ (x ++ behind_commas xs)

-- with a comma between any two
abbrev pub separated : List (List Word) → List Word
separated [] = []
separated (x ∷ xs) = x ++ behind_commas xs

abbrev pub named : List ℕ → List Word
named name = Name name ∷ []

-- a column that equals a parameter
abbrev pub equals : List ℕ → List Word
equals name = Name name ∷ Sign Equal ∷ Sign Mark ∷ []

abbrev pub where_equals : List ℕ → List Word
where_equals name = Keyword Where ∷ equals name

abbrev pub in_order_of : List ℕ → List Word
in_order_of name = Keyword Order ∷ Keyword By ∷ Name name ∷ []

abbrev pub listed : List Column → List ℕ → List Word
listed columns places = separated (map (λ c. named (name_at columns c)) places)

abbrev pub assigned : List Column → List ℕ → List Word
assigned columns places = separated (map (λ c. equals (name_at columns c)) places)

abbrev pub marks : List Column → List Word
marks columns = separated (map (λ c. Sign Mark ∷ []) columns)

abbrev pub select : Schema → ℕ → List ℕ → List Word → List Word
select schema table columns rest = Keyword Select ∷ (listed (columns_of schema table) columns ++ (Keyword From ∷ Name (name_of schema table) ∷ rest))

abbrev pub update : Schema → ℕ → List ℕ → List Word
update schema table columns = Keyword Update ∷ Name (name_of schema table) ∷ Keyword Set ∷ (assigned (columns_of schema table) columns ++ where_equals (key (columns_of schema table)))

abbrev pub insert : Schema → ℕ → List Word
insert schema table = Keyword Insert ∷ Keyword Into ∷ Name (name_of schema table) ∷ Keyword Values ∷ Sign Open ∷ (marks (columns_of schema table) ++ Sign Close ∷ [])

abbrev pub delete : Schema → ℕ → List Word
delete schema table = Keyword Delete ∷ Keyword From ∷ Name (name_of schema table) ∷ where_equals (key (columns_of schema table))

abbrev pub words_of : Schema → Statement → List Word
words_of schema (s.ByKey table columns) = select schema table columns (where_equals (key (columns_of schema table)))
words_of schema (s.ByColumn table columns column) = select schema table columns (where_equals (name_at (columns_of schema table) column) ++ in_order_of (key (columns_of schema table)))
words_of schema (s.All table columns) = select schema table columns (in_order_of (key (columns_of schema table)))
words_of schema (s.Update table columns) = update schema table columns
words_of schema (s.Insert table) = insert schema table
words_of schema (s.Delete table) = delete schema table
