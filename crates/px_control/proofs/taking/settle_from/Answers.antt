use Rattle.std.proofs.Common.{◌≡◌, ◌<◌, length, Some, slice_get, slice_set, refl, sym, ap, ◌∙◌, arith, rules}
use Rattle.std.proofs.lemmas.Option.{slice_get_read}
use Rattle.px_blocks.specs.Machine.{Frame}
use Rattle.px_blocks.specs.Message.{settled_frame}
use Rattle.px_control.proofs.InPlace.{next_in_place}
use Rattle.px_control.proofs.taking.settle_from.Goals as goal

pub loop-frame-preserved : goal.loop-frame-preserved
loop-frame-preserved c =
    let within : c.loop-frame.frame < length c.loop-frame.frames.items = omega (arith, c.loop-frame.frames.ok) in
    let here : slice_get c.loop-frame.frames.items c.loop-frame.frame ≡ Some c.index_mut.result.now = slice_get_read c.loop-frame.frames.items _ c.loop-frame.frame c.index_mut.result.now refl within c.index_mut.ensures.value in
    record {
      len = search rules;
      capacity = search rules;
      done = next_in_place settled_frame c.args.frames.now.items c.loop-frame.frames.items c.loop-frame.frame c.index_mut.result.now c.loop-frame.invariant.done here ∙ ap (λ (f : Frame). slice_set c.loop-frame.frames.items c.loop-frame.frame f) (sym c.settle.ensures);
    }
