use Rattle.std.proofs.Common.{◌≡◌, ◌+◌, ◌++◌, drop}
use Rattle.px_report.specs.Lines.{numbered, heap_text}
use Rattle.px_report.proofs.heaps.push_heaps.Given as goal

abbrev pub invariant-loop-place : goal.invariant-loop-place
invariant-loop-place l =
    l.text.items ++ numbered (heap_text l.classes) (l.place + 1) (drop l.place l.heaps) ≡ l.fn.text.items ++ numbered (heap_text l.classes) 1 l.heaps
