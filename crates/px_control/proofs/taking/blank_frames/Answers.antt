use Rattle.std.proofs.Common.{refl}
use Rattle.px_control.proofs.Absorbing.{bare, settled_blanks}
use Rattle.px_control.proofs.taking.blank_frames.Goals as goal

pub returns-clause-settled : goal.returns-clause-settled
returns-clause-settled c = settled_blanks (bare c.args.code.now) c.args.told.now c.loop-frame.frames.items c.loop-frame.frame-index c.loop-frame-test.false (c.loop-frame.invariant (bare c.args.code.now) refl)
