use Rattle.std.proofs.Common.{◌∙◌}
use Rattle.px_tree.specs.Numbering.{numbered_member}
use Rattle.px_tree.proofs.Numbers.{joined_start, joined_turn}
use Rattle.px_tree.proofs.numbering.Numbers.members.Goals as goal

pub loop-member-init : goal.loop-member-init
loop-member-init c = joined_start numbered_member c.args.members c.in_ok-left.left c.new-numbered.result c.args.self.now.next c.in_ok-left.ensures c.new-numbered.ensures

pub loop-member-preserved : goal.loop-member-preserved
loop-member-preserved c =
    c.loop-member.invariant
    ∙ joined_turn numbered_member c.loop-member.left c.pop.new.self c.loop-member.numbered c.push.new.self c.in-Some.member c.in_ok-member.field-0 c.loop-member.self.next c.member.new.self.next c.in-Some.ensures c.in_ok-member.ensures c.in_ok-push.ensures.ok
