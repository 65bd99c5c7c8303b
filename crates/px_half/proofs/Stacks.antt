-- Slots that aren't there.
use Rattle.std.proofs.Common.{◌≡◌, ℕ, ◌≤◌, List, length, Option, Some, None, slice_get, slice_set, refl, ap, ◌∙◌}
use Rattle.std.proofs.lemmas.Option.{slice_get_past}
use Rattle.px_value.specs.declared.value.Value.{Value}
use Rattle.px_value.proofs.Cells.{set_same, set_none}
use Rattle.px_code.specs.declared.frame.Frame.{Frame}
use Rattle.px_code.specs.declared.frame.Slot.{Slot}
use Rattle.px_code.specs.Machine.{with_slot_in, filled, just_written}

past : (o : Option Frame) (frames : List Frame) (f n : ℕ) (v : Value) → slice_get frames f ≡ o → ((x : Frame) → o ≡ Some x → length x.slots ≤ n) → with_slot_in o n v frames f ≡ frames
past None frames f n v e h = refl
past (Some x) frames f n v e h =
    ap (λ (slots : List Slot). slice_set frames f (record x { slots = slots })) (set_none x.slots n (just_written v) (slice_get_past x.slots n (h x refl)))
    ∙ set_same frames f x e

pub filled-past : (frames : List Frame) (f n : ℕ) (v : Value) → ((x : Frame) → slice_get frames f ≡ Some x → length x.slots ≤ n) → filled frames f n v ≡ frames
filled-past frames f n v h = past (slice_get frames f) frames f n v refl h
