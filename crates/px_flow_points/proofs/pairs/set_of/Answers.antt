use Rattle.std.proofs.Common.{◌∙◌, get_or, arith}
use Rattle.px_flow_points.specs.declared.part.Part.TheVariants.{Field}
use Rattle.px_flow_points.specs.declared.pairs.Touch.{Touch}
use Rattle.px_flow_points.specs.ByNode.{touch_cmp}
use Rattle.px_flow_points.proofs.Inserting.{put_more, insert_alike}
use Rattle.px_flow_points.proofs.TouchOrder.{derived}
use Rattle.px_flow_points.specs.contracts.pairs.TouchOrd.TheImpl.{cmp-value}
use Rattle.px_flow_points.proofs.pairs.set_of.Goals as goal

abbrev none : Touch
none = record { node = 0; pair = record { site = 0; part = Field 0 } }

pub loop-touch-preserved : goal.loop-touch-preserved
loop-touch-preserved c = put_more touch_cmp c.loop-touch.set.keys c.insert.new.self.keys c.args.touches.now _ c.loop-touch.touch-index none (omega arith) (c.in_ok-insert.ensures.keys ∙ insert_alike cmp-value.it touch_cmp derived c.loop-touch.set.keys (get_or c.args.touches.now c.loop-touch.touch-index none)) c.loop-touch.invariant
