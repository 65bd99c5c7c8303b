-- The places that operations read and write.
use Rattle.std.specs.Prelude.{Bool, true, false, ◌==◌, ◌&&◌, ◌||◌, List, [], ◌∷◌, Option, if◌then◌else◌}
use Rattle.std.specs.Ordering.{int_cmp, eq_by_cmp}
use Rattle.px_value.specs.declared.statement.Statement.{Statement}
use Rattle.px_value.specs.declared.statement.Statement.TheVariants.{Update, Insert, Delete}
use Rattle.px_value.specs.declared.statement.TableOp.{TableOp}
use Rattle.px_rows.specs.Tables.{Row, Place, Old}
use Rattle.px_rows.specs.Means.{table_of, by_key, place_of}

abbrev pub same_place : Place → Place → Bool
same_place c d = (c.table == d.table) && eq_by_cmp int_cmp c.key d.key

abbrev pub writes : Statement → Bool
writes (Update table columns) = true
writes (Insert table) = true
writes (Delete table) = true
writes _ = false

-- it reads or writes there: at its key, or in its whole table
unfoldable pub touches : TableOp → Place → Bool
touches o c = if by_key o.statement then same_place c (place_of o) else (c.table == table_of o.statement)

-- it may write there
unfoldable pub puts : TableOp → Place → Bool
puts o c = if writes o.statement then same_place c (place_of o) else false

abbrev pub touched : List TableOp → Place → Bool
touched [] c = false
touched (o ∷ os) c = touches o c || touched os c

abbrev pub written : List TableOp → Place → Bool
written [] c = false
written (o ∷ os) c = puts o c || written os c

-- the row at a place once the old rows are put back, the first of each place at last; r where there is none
abbrev pub restored : List Old → Place → Option Row → Option Row
restored [] c r = r
restored (o ∷ os) c r = if same_place c o.place then o.row else restored os c r
