use Rattle.std.proofs.Common.{◌<◌, List, slice_set, length, refl, sym, ap, ◌∙◌, arith, rules}
use Rattle.std.proofs.lemmas.Option.{slice_get_read}
use Rattle.px_code.specs.declared.frame.Slot.{Slot}
use Rattle.px_code.proofs.InPlace.{next_in_place}
use Rattle.px_half.specs.Absorbed.{settled_frame}
use Rattle.px_half.proofs.take_in.settle.Goals as goal

pub loop-frame-preserved : goal.loop-frame-preserved
loop-frame-preserved c =
    let within : c.loop-frame.frame < length c.loop-frame.frames.items = omega (arith, c.loop-frame-test.true, c.loop-frame.auto.frame-end, c.loop-frame.invariant.same, c.len-frame-end.ensures, c.args.frames.now.ok) in
    record {
      same = search rules;
      done = next_in_place settled_frame c.args.frames.now.items c.loop-frame.frames.items c.loop-frame.frame c.index_mut.result.now c.loop-frame.invariant.done (slice_get_read c.loop-frame.frames.items _ c.loop-frame.frame c.index_mut.result.now refl within c.index_mut.ensures.value)
          ∙ ap (λ (slots : List Slot). slice_set c.loop-frame.frames.items c.loop-frame.frame (record c.index_mut.result.now { slots = slots })) (sym c.settle.ensures);
    }
