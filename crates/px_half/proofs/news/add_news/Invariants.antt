use Rattle.std.proofs.Common.{◌≡◌, drop, take, length}
use Rattle.px_half.specs.Undo.{undone}
use Rattle.px_half.specs.Absorbed.{with_news}
use Rattle.px_half.proofs.news.add_news.Given as goal

abbrev pub invariant-loop-header : goal.invariant-loop-header
invariant-loop-header l = record {
  rest : with_news l.fn.code l.fn.headers l.fn.heap ≡ with_news l.fn.code (drop l.header-index l.fn.headers) l.heap;
  front : take (length l.fn.heap) l.heap ≡ l.fn.heap;
  undo_front : take (length l.fn.undo.items) l.undo.items ≡ l.fn.undo.items;
  undone : undone l.undo.items l.heap ≡ undone l.fn.undo.items l.fn.heap;
}
