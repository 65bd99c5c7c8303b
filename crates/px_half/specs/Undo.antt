-- Changes of a heap that are taken back.
use Rattle.std.specs.Prelude.{◌-◌, List, [], ◌∷◌, length, take}
use Rattle.px_value.specs.declared.object.Object.{Object}
use Rattle.px_value.specs.Heap.{written}
use Rattle.px_half.specs.declared.undo.Change.{Change}
use Rattle.px_half.specs.declared.undo.Change.TheVariants.{Wrote, Made}

abbrev pub undo_one : Change → List Object → List Object
undo_one (Wrote object index old) heap = written heap object index old
undo_one Made heap = take (length heap - 1) heap

-- the heap before these changes, in their order; the last is taken back first
abbrev pub undone : List Change → List Object → List Object
undone [] heap = heap
undone (c ∷ changes) heap = undo_one c (undone changes heap)
