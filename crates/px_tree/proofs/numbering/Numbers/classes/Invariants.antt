use Rattle.std.proofs.Common.{◌≡◌, map, reverse, length}
use Rattle.px_tree.specs.Numbering.{in_order, numbered_class}
use Rattle.px_tree.proofs.Numbers.{joined}
use Rattle.px_tree.proofs.numbering.Numbers.classes.Given as goal

abbrev pub invariant-loop-class : goal.invariant-loop-class
invariant-loop-class l = in_order (map numbered_class l.fn.classes) l.fn.self.next ≡ joined l.numbered (in_order (map numbered_class (reverse l.left)) l.self.next)

abbrev pub decreases-loop-class : goal.decreases-loop-class
decreases-loop-class l = length l.left
