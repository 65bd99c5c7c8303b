use Rattle.std.proofs.Common.{◌≡◌, map, reverse, length}
use Rattle.px_tree.specs.Numbering.{in_order, numbered_member}
use Rattle.px_tree.proofs.Numbers.{joined}
use Rattle.px_tree.proofs.numbering.Numbers.members.Given as goal

abbrev pub invariant-loop-member : goal.invariant-loop-member
invariant-loop-member l = in_order (map numbered_member l.fn.members) l.fn.self.next ≡ joined l.numbered (in_order (map numbered_member (reverse l.left)) l.self.next)

abbrev pub decreases-loop-member : goal.decreases-loop-member
decreases-loop-member l = length l.left
