use Rattle.std.proofs.Common.{◌≡◌, length}
use Rattle.std.specs.Vec.Iter.{into_iter_items}
use Rattle.px_blocks.specs.Message.{with_cells}
use Rattle.px_control.proofs.taking.write_cells.Given as goal

abbrev pub invariant-loop-cell : goal.invariant-loop-cell
invariant-loop-cell g l = record {
  room : g.E.HeapEnd.has_room l.end (length (into_iter_items l.cell-iterator));
  written : with_cells (into_iter_items l.cell-iterator) (g.E.HeapEnd.objects l.end) ≡ with_cells l.fn.cells.items (g.E.HeapEnd.objects l.fn.end);
  closed : g.E.HeapEnd.closed l.end ≡ g.E.HeapEnd.closed l.fn.end;
}
