use Rattle.std.proofs.Common.{◌<◌, List, length, refl, ap, arith, rules}
use Rattle.std.proofs.lemmas.Option.{slice_get_read}
use Rattle.px_code.specs.declared.frame.Slot.{Slot}
use Rattle.px_code.specs.Slots.{settled}
use Rattle.px_code.proofs.InPlace.{next_in_place}
use Rattle.px_code.proofs.frame.Slots.settle.Goals as goal

pub loop-at-preserved : goal.loop-at-preserved
loop-at-preserved c =
    let within : c.loop-at.at < length c.loop-at.self-inside.items.items = omega (arith, c.loop-at-test.true, c.loop-at.auto.at-end, c.loop-at.invariant.same, c.len-at-end.ensures, ap (λ (xs : List Slot). length xs) c.self.view_is, c.self.inside.items.ok) in
    record {
      same = search rules;
      done = next_in_place settled c.args.self.now c.loop-at.self-inside.items.items c.loop-at.at c.index_mut.result.now c.loop-at.invariant.done (slice_get_read c.loop-at.self-inside.items.items _ c.loop-at.at c.index_mut.result.now refl within c.index_mut.ensures.value);
    }
