-- A heap, and what leads back to the heap of the last close.
use Rattle.std.specs.Prelude.{ℕ, nat_eq, Bool, ◌&&◌, List, [], ◌∷◌, take}
use Rattle.px_value.specs.declared.value.Value.{Value}
use Rattle.px_value.specs.declared.object.Object.{Object}
use Rattle.px_value.specs.Heap.{written}

-- a heap, as it is now and as it was at the last close
pub record Stored : Type 0 where
  pub heap : List Object
  pub closed : List Object

-- an object and an index
abbrev pub Cell : Type 0
Cell = ℕ × ℕ

abbrev pub is_cell : Cell → Cell → Bool
is_cell a b = nat_eq a.0 b.0 && nat_eq a.1 b.1

-- a cell that was written, and what stood in it
abbrev pub Old : Type 0
Old = Cell × Value

-- the heap before these writes, in their order; the last is taken back first
abbrev pub undone : List Old → List Object → List Object
undone [] heap = heap
undone (o ∷ olds) heap = written (undone olds heap) o.0.0 o.0.1 o.1

-- the heap when it had so many objects
abbrev pub restored : ℕ → List Old → List Object → List Object
restored start olds heap = undone olds (take start heap)
