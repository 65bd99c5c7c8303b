use Rattle.std.proofs.Common.{◌≡◌, ◌≤◌, ◌+◌, length, vec_len, vec_capacity}
use Rattle.std.specs.Vec.Iter.{into_iter_items}
use Rattle.px_half.specs.Undo.{undone}
use Rattle.px_half.specs.Absorbed.{with_cells}
use Rattle.px_half.proofs.take_in.write_cells.Given as goal

abbrev pub invariant-loop-cell : goal.invariant-loop-cell
invariant-loop-cell l = record {
  rest : with_cells l.fn.cells.items l.fn.heap ≡ with_cells (into_iter_items l.cell-iterator) l.heap;
  room : vec_len l.undo + length (into_iter_items l.cell-iterator) ≤ vec_capacity l.undo;
  undone : undone l.undo.items l.heap ≡ undone l.fn.undo.items l.fn.heap;
}
