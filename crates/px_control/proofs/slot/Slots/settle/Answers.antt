use Rattle.std.proofs.Common.{◌≡◌, ◌<◌, List, map, length, Some, option_map, slice_get, refl, sym, ap, ◌∙◌, arith, rules}
use Rattle.std.proofs.lemmas.List.{map-set, length-map}
use Rattle.std.proofs.lemmas.Option.{slice_get_read, slice_get-map}
use Rattle.px_blocks.specs.Machine.{Slot}
use Rattle.px_blocks.specs.Message.{settled}
use Rattle.px_control.specs.declared.slot.Slot.{Slot as SlotData}
use Rattle.px_control.specs.Slots.{slot_of}
use Rattle.px_control.proofs.InPlace.{next_in_place}
use Rattle.px_control.proofs.slot.Slots.settle.Goals as goal

pub loop-at-preserved : goal.loop-at-preserved
loop-at-preserved c =
    let items : List SlotData = c.loop-at.self-inside.items.items in
    let within : c.loop-at.at < length c.loop-at.self-inside.items.items = omega (arith, c.loop-at-test.true, c.loop-at.auto.at-end, c.loop-at.invariant.same, c.len-at-end.ensures, length-map c.self.inside.items.items slot_of, ap (λ (xs : List Slot). length xs) c.self.view_is, c.self.inside.items.ok) in
    let here : slice_get (map slot_of items) c.loop-at.at ≡ Some (slot_of c.index_mut.result.now) = slice_get-map slot_of items c.loop-at.at ∙ ap (option_map slot_of) (slice_get_read items _ c.loop-at.at c.index_mut.result.now refl within c.index_mut.ensures.value) in
    record {
      same = search rules;
      done = next_in_place settled c.args.self.now (map slot_of items) c.loop-at.at (slot_of c.index_mut.result.now) c.loop-at.invariant.done here ∙ sym (map-set slot_of items c.loop-at.at _);
    }
