use Rattle.std.proofs.Common.{◌≡◌, ◌++◌, drop}
use Rattle.std.specs.List.{flat_map}
use Rattle.px_report.specs.Lines.{call_text}
use Rattle.px_report.proofs.calls.push_calls.Given as goal

abbrev pub invariant-loop-call : goal.invariant-loop-call
invariant-loop-call l =
    l.text.items ++ flat_map call_text (drop l.call-index l.calls) ≡ l.fn.text.items ++ flat_map call_text l.calls
