use Rattle.std.proofs.Common.{◌≡◌, ◌++◌, drop}
use Rattle.std.specs.List.{flat_map}
use Rattle.px_pyxil.specs.Lines.{lines_in_all}
use Rattle.px_pyxil.specs.Spelling.{line_text}
use Rattle.px_pyxil.proofs.printing.+push.Given as goal

abbrev pub invariant-push_trees-loop-tree : goal.invariant-push_trees-loop-tree
invariant-push_trees-loop-tree l =
    l.text.items ++ flat_map line_text (lines_in_all (drop l.tree-index l.trees)) ≡ l.fn.text.items ++ flat_map line_text (lines_in_all l.trees)
