use Rattle.std.proofs.Common.{List, ◌++◌, take, ap, ◌∙◌}
use Rattle.px_blocks.specs.Machine.{Frame}
use Rattle.px_control.specs.Taken.{with_placed}
use Rattle.px_control.proofs.Absorbing.{settled_stack}
use Rattle.px_control.proofs.taking.take_frames.Goals as goal

pub returns : goal.returns
returns c =
    c.place_slots.ensures
    ∙ ap (with_placed c.args.slots.items) (
    c.push_frames.ensures
    ∙ ap (λ (xs : List Frame). xs ++ c.args.more.items) (c.truncate.ensures.items ∙ ap (take c.args.base) c.settle_from.ensures.settled)
    ∙ settled_stack c.args.base c.args.frames.now.items c.args.more.items c.requires.blank)
