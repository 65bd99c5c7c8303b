-- Writes that are taken back.
use Rattle.std.specs.Prelude.{ℕ, nat_lt, List, [], ◌∷◌, ◌++◌, take, if◌then◌else◌}
use Rattle.px_value.specs.declared.object.Object.{Object}
use Rattle.px_value.specs.Heap.{written}
use Rattle.px_plain.specs.declared.change.Change.{Change}

-- the heap before these changes, in their order; the last is taken back first
abbrev pub undone : List Change → List Object → List Object
undone [] heap = heap
undone (c ∷ changes) heap = written (undone changes heap) c.object c.index c.old

-- a change of one of the first objects is noted
abbrev pub noted : ℕ → Change → List Change → List Change
noted start c changes = if nat_lt c.object start then changes ++ c ∷ [] else changes

-- the heap when it had so many objects
abbrev pub restored : ℕ → List Change → List Object → List Object
restored start changes heap = undone changes (take start heap)
