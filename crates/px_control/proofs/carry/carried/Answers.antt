use Rattle.px_control.specs.declared.marks.Mark.{Mark}
use Rattle.px_control.proofs.Carrying.{carry_next}
use Rattle.px_control.proofs.carry.carried.Goals as goal

abbrev none : Mark
none = record { object = 0; index = 0 }

pub loop-mark-preserved : goal.loop-mark-preserved
loop-mark-preserved g c = λ plan e. carry_next plan c.args.heap.now c.args.names.now c.args.marks.now c.loop-mark.carried.items c.push_if.new.marks.items c.loop-mark.mark-index none c.is_named.result _ c.loop-mark-test.true (c.is_named.ensures plan e) c.in_ok-push_if.ensures (c.loop-mark.invariant plan e)
