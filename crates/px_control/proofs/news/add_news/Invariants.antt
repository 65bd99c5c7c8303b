use Rattle.std.proofs.Common.{◌≡◌, drop, take, length}
use Rattle.px_value.specs.Heap.{heap_counted}
use Rattle.px_control.specs.Taken.{news_fit, with_news}
use Rattle.px_control.proofs.news.add_news.Given as goal

abbrev pub invariant-loop-header : goal.invariant-loop-header
invariant-loop-header g l = record {
  fit : news_fit l.fn.code (heap_counted (g.E.HeapEnd.objects l.fn.end)) l.fn.headers ≡ news_fit l.fn.code (heap_counted (g.E.HeapEnd.objects l.end)) (drop l.header-index l.fn.headers);
  all : with_news l.fn.code (drop l.header-index l.fn.headers) (g.E.HeapEnd.objects l.end) ≡ with_news l.fn.code l.fn.headers (g.E.HeapEnd.objects l.fn.end);
  front : take (length (g.E.HeapEnd.objects l.fn.end)) (g.E.HeapEnd.objects l.end) ≡ g.E.HeapEnd.objects l.fn.end;
  closed : g.E.HeapEnd.closed l.end ≡ g.E.HeapEnd.closed l.fn.end;
}
