use Rattle.std.proofs.Common.{◌∙◌}
use Rattle.px_tree.specs.Numbering.{numbered_class}
use Rattle.px_tree.proofs.Numbers.{joined_start, joined_turn}
use Rattle.px_tree.proofs.numbering.Numbers.classes.Goals as goal

pub loop-class-init : goal.loop-class-init
loop-class-init c = joined_start numbered_class c.args.classes c.in_ok-left.left c.new-numbered.result c.args.self.now.next c.in_ok-left.ensures c.new-numbered.ensures

pub loop-class-preserved : goal.loop-class-preserved
loop-class-preserved c =
    c.loop-class.invariant
    ∙ joined_turn numbered_class c.loop-class.left c.pop.new.self c.loop-class.numbered c.push.new.self c.in-Some.class c.in_ok-class.field-0 c.loop-class.self.next c.class.new.self.next c.in-Some.ensures c.in_ok-class.ensures c.in_ok-push.ensures.ok
