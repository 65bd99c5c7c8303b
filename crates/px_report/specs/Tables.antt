-- The text of tables, line by line.
use Rattle.std.specs.Prelude.{ℕ, List, [], ◌∷◌, ◌++◌, map, codes}
use Rattle.std.specs.List.{flat_map}
use Rattle.px_value.specs.declared.value.Value.{Value}
use Rattle.px_value.specs.declared.schema.Table.{Table}
use Rattle.px_rows.specs.Tables.{Tables, rows_of}
use Rattle.px_report.specs.Words.{value_text}
use Rattle.px_report.specs.Lines.{line, numbered}

abbrev pub row_line : List Value → List ℕ
row_line row = line (codes "row" ∷ map value_text row)

-- a table by its number, and its rows in order of the key
abbrev pub table_text : Tables → ℕ → Table → List ℕ
table_text T number table = line (codes "table" ∷ table.name ∷ []) ++ flat_map row_line (rows_of T number)

-- the tables of a schema in its order
abbrev pub tables_text : List Table → Tables → List ℕ
tables_text tables T = numbered (table_text T) 0 tables
