use Rattle.std.proofs.Common.{◌≡◌, ◌++◌, drop}
use Rattle.std.specs.List.{flat_map}
use Rattle.px_pyxil.specs.Lines.{method_lines}
use Rattle.px_pyxil.specs.Spelling.{line_text}
use Rattle.px_pyxil.proofs.printing.push_methods.Given as goal

abbrev pub invariant-loop-method : goal.invariant-loop-method
invariant-loop-method l =
    l.text.items ++ flat_map line_text (flat_map method_lines (drop l.method-index l.methods)) ≡ l.initial.text.items ++ flat_map line_text (flat_map method_lines l.methods)
