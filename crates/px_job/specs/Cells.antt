-- Words that stand for the values of a row.
use Rattle.std.specs.Prelude.{ℕ, nat_le, List, [], ◌∷◌, length, Option, Some, None, if◌then◌else◌}
use Rattle.std.specs.Option.{option_map, option_and_then}
use Rattle.px_outside.specs.Numbers.{i64_of}
use Rattle.px_value.specs.Limits.{max_parameter}
use Rattle.px_value.specs.declared.schema.Column.{Column}
use Rattle.px_value.specs.declared.schema.ColumnType.{ColumnType}
use Rattle.px_value.specs.declared.schema.ColumnType.TheVariants as columns
use Rattle.px_value.specs.declared.value.Value.{Value}
use Rattle.px_value.specs.declared.value.Value.TheVariants as values
use Rattle.px_job.specs.Texts.{text_of}
use Rattle.px_job.specs.Arguments.{with_argument}

abbrev pub short_cell : List ℕ → Option (List ℕ)
short_cell text = if nat_le (length text) max_parameter then Some text else None

-- the value of a column that a word stands for
abbrev pub cell_of : ColumnType → List ℕ → Option Value
cell_of columns.Long word = option_map values.Long (i64_of word)
cell_of columns.Text word = option_map values.Text (option_and_then short_cell (text_of word))

-- the values of as many words as there are columns
abbrev pub cells_of : List Column → List (List ℕ) → Option (List Value)
cells_of [] [] = Some []
cells_of (column ∷ columns) (word ∷ words) = with_argument (cell_of column.ty word) (cells_of columns words)
cells_of _ _ = None
