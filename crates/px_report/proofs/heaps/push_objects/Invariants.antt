use Rattle.std.proofs.Common.{◌≡◌, ◌++◌, drop}
use Rattle.px_report.specs.Lines.{numbered, object_line}
use Rattle.px_report.proofs.heaps.push_objects.Given as goal

abbrev pub invariant-loop-place : goal.invariant-loop-place
invariant-loop-place l =
    l.text.items ++ numbered (object_line l.classes) l.place (drop l.place l.objects) ≡ l.fn.text.items ++ numbered (object_line l.classes) 0 l.objects
