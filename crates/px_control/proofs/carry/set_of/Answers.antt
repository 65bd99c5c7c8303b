use Rattle.std.proofs.Common.{◌≡◌, ◌+◌, ◌-◌, ◌<◌, length, arith}
use Rattle.px_control.specs.declared.marks.Mark.{Mark}
use Rattle.px_control.proofs.Ordering.{put_next}
use Rattle.px_control.proofs.carry.set_of.Goals as goal

abbrev none : Mark
none = record { object = 0; index = 0 }

pub loop-at-preserved : goal.loop-at-preserved
loop-at-preserved c =
    let within : c.loop-at.at - 1 < length c.args.marks.now = omega arith in
    let last : c.loop-at.at ≡ c.loop-at.at - 1 + 1 = omega arith in
    put_next c.args.marks.now c.loop-at.set.keys c.insert.new.self.keys c.loop-at.at (c.loop-at.at - 1) none within last c.in_ok-insert.ensures.keys c.loop-at.invariant
