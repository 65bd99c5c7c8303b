use Rattle.std.proofs.Common.{◌≡◌, ◌++◌, drop}
use Rattle.std.specs.List.{flat_map}
use Rattle.px_report.specs.Lines.{print_line}
use Rattle.px_report.proofs.prints.push_prints.Given as goal

abbrev pub invariant-loop-printed : goal.invariant-loop-printed
invariant-loop-printed l =
    l.text.items ++ flat_map (print_line l.session) (drop l.printed-index l.prints) ≡ l.fn.text.items ++ flat_map (print_line l.session) l.prints
