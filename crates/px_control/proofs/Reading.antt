-- Slots that are read.
use Rattle.std.proofs.Common.{◌≡◌, ℕ, List, map, Option, Some, None, option_map, unwrap_or, slice_get, refl, sym, ap, ◌∙◌}
use Rattle.std.proofs.lemmas.Option.{slice_get-map}
use Rattle.px_value.specs.declared.value.Value.{Value}
use Rattle.px_value.specs.declared.value.Value.TheVariants.{Null}
use Rattle.px_blocks.specs.Machine.{Slot, values_in}
use Rattle.px_control.specs.declared.slot.Slot.{Slot as SlotData}
use Rattle.px_control.specs.Slots.{slot_of}

abbrev pub value_of : Option SlotData → Value
value_of None = Null
value_of (Some s) = s.value

found : (o : Option SlotData) → unwrap_or (option_map (λ (s : Slot). s.value) (option_map slot_of o)) Null ≡ value_of o
found None = refl
found (Some s) = refl

-- the value of a slot, in the list that the machine has
pub read_slot : (slots : List SlotData) (all : List Slot) (k : ℕ) (o : Option SlotData) → map slot_of slots ≡ all → o ≡ slice_get slots k → unwrap_or (slice_get (values_in all) k) Null ≡ value_of o
read_slot slots all k o e h =
    ap (λ (xs : List Slot). unwrap_or (slice_get (values_in xs) k) Null) (sym e)
    ∙ ap (λ (v : Option Value). unwrap_or v Null) (slice_get-map (λ (s : Slot). s.value) (map slot_of slots) k)
    ∙ ap (λ (s : Option Slot). unwrap_or (option_map (λ (t : Slot). t.value) s) Null) (slice_get-map slot_of slots k)
    ∙ found (slice_get slots k)
    ∙ ap value_of (sym h)
