-- Rows with their keys, in order of the key.
use Rattle.std.specs.Prelude.{ℤ, T, not, List, [], ◌∷◌, ◌++◌, map, Option, Some, None}
use Rattle.std.specs.Ordering.{int_cmp, is_lt, is_eq}
use Rattle.std.specs.FinMap.{is_sorted}
use Rattle.std.specs.FinMap.Entries.{where_key}
use Rattle.px_value.specs.declared.value.Value.{Value}

abbrev pub Entries : Type 0
Entries = List (ℤ × List Value)

abbrev pub IsSorted : Entries → Type 0
IsSorted es = T (is_sorted int_cmp es)

-- those below a key
abbrev pub below : ℤ → Entries → Entries
below k es = where_key int_cmp (λ q. is_lt (int_cmp q k)) es

-- those above a key
abbrev pub above : ℤ → Entries → Entries
above k es = where_key int_cmp (λ q. is_lt (int_cmp k q)) es

-- those at other keys
abbrev pub without : ℤ → Entries → Entries
without k es = where_key int_cmp (λ q. not (is_eq (int_cmp k q))) es

abbrev pub rows_in : Entries → List (List Value)
rows_in es = map (λ e. e.1) es

abbrev pub or_none : Option Entries → Entries
or_none None = []
or_none (Some es) = es

-- those on both sides of a row, and the row
abbrev pub around : Entries → ℤ → List Value → Entries → Entries
around left key row right = left ++ (key, row) ∷ right
