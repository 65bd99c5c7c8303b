-- What holds of operations, and of their undo.
use Rattle.std.specs.Prelude.{◌≡◌, ℕ, List}
use Rattle.px_value.specs.declared.schema.Table.{Table as Declared}
use Rattle.px_value.specs.declared.statement.TableOp.{TableOp}
use Rattle.px_rows.specs.Tables.{Row, Tables, empty_tables, undone}
use Rattle.px_rows.specs.Means.{after, loaded, old_of, fed, olds_of}
use Rattle.px_rows.specs.Typed.{AreOf, columns_at, AreTyped, WritesTyped}

abbrev pub UndoRestores : Type 0
UndoRestores = (o : TableOp) (T : Tables) → undone (old_of o T) (after o T) ≡ T

abbrev pub UndoRestoresAll : Type 0
UndoRestoresAll = (os : List TableOp) (T : Tables) → undone (olds_of os T) (fed os T) ≡ T

-- ---- types of columns

abbrev pub EmptyIsTyped : Type 0
EmptyIsTyped = (tables : List Declared) → AreTyped tables (empty_tables tables)

abbrev pub LoadKeepsTypes : Type 0
LoadKeepsTypes = (tables : List Declared) (T : Tables) (table : ℕ) (row : Row) → AreTyped tables T → AreOf (columns_at tables table) row → AreTyped tables (loaded table row T)

abbrev pub WriteKeepsTypes : Type 0
WriteKeepsTypes = (tables : List Declared) (o : TableOp) (T : Tables) → AreTyped tables T → WritesTyped tables o.statement o.params → AreTyped tables (after o T)
