-- How a call meets what an act comes to on a heap.
use Rattle.std.specs.Prelude.{◌≡◌, ℕ, List, [], Result, Ok, Err}
use Rattle.px_value.specs.declared.value.Value.{Value}
use Rattle.px_value.specs.declared.object.Object.{Object}
use Rattle.px_value.specs.declared.thrown.Thrown.{Thrown}
use Rattle.px_value.specs.Operators.{Applied}
use Rattle.px_effects.specs.Act.{Acted, Came, Landed, Place as Cell}
use Rattle.px_acts.specs.declared.stop.Stop.{Stop}
use Rattle.px_acts.specs.declared.stop.Stop.TheVariants.{Threw, NoMemory}
use Rattle.px_acts.specs.declared.cells.Done.{Done}
use Rattle.px_acts.specs.declared.rows.Made.{Made}
use Rattle.px_acts.specs.Places.{wrote as cells_of, all_wrote}

-- the act came to a value or a throw, wrote these cells, and left this heap; what it read is free
pub record IsEnd (a : Acted) (v : Applied) (cells : List Cell) (heap : List Object) : Type 0 where
  pub comes : a.ends ≡ Came v
  pub wrote : a.writes ≡ cells
  pub left : a.heap ≡ heap

-- what stops an act writes nothing
abbrev pub Stops : Acted → Stop → List Object → Type 0
Stops a (Threw t) heap = IsEnd a (Err t) [] heap
Stops a NoMemory heap = Unit {0}

-- an act that writes no cell
abbrev pub Ends : Acted → Result Value Stop → List Object → Type 0
Ends a (Ok v) heap = IsEnd a (Ok v) [] heap
Ends a (Err e) heap = Stops a e heap

-- one that may write a cell
abbrev pub Writes : Acted → Result Done Stop → List Object → Type 0
Writes a (Ok d) heap = IsEnd a (Ok d.value) (cells_of d.wrote) heap
Writes a (Err e) heap = Stops a e heap

-- one that may write all cells of a new result set
abbrev pub Makes : Acted → Result Made Stop → List Object → Type 0
Makes a (Ok m) heap = IsEnd a (Ok m.value) (all_wrote m.wrote) heap
Makes a (Err e) heap = Stops a e heap

-- a value or a throw, unless memory ran out
abbrev pub Comes : {A : Type 0} → Result A Stop → Result A Thrown → Type 0
Comes (Ok v) a = a ≡ Ok v
Comes (Err (Threw t)) a = a ≡ Err t
Comes (Err NoMemory) a = Unit {0}

-- a value or a throw, with the lines that are printed then
abbrev pub Lands : Landed → Result Value Stop → List (List ℕ) → Type 0
Lands l (Ok v) prints = l ≡ record { value = Ok v; prints = prints }
Lands l (Err (Threw t)) prints = l ≡ record { value = Err t; prints = prints }
Lands l (Err NoMemory) prints = Unit {0}
