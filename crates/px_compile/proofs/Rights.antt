-- Each statement has the send that it needs.
use Rattle.std.proofs.Common.{◌≡◌, ℕ, ◌<◌, Bool, true, false, List, length, refl, subst}
use Rattle.px_code.specs.declared.side.Side.{Side}
use Rattle.px_code.specs.declared.cell.Part.{Part}
use Rattle.px_code.specs.declared.cell.Part.TheVariants.{Field}
use Rattle.px_code.specs.declared.word.Operand.{Operand}
use Rattle.px_code.specs.declared.word.Operand.TheVariants.{Slot}
use Rattle.px_code.specs.declared.word.Word.{Word}
use Rattle.px_code.specs.declared.word.Word.TheVariants as w
use Rattle.px_code.specs.declared.code.Code.{Code}
use Rattle.px_code.specs.Places.{other, side_of, field_node}
use Rattle.px_code.specs.WellFormed.{IsWordOf, main_fields}
use Rattle.px_code.specs.Points.{PointsTo, InSlot, WritesPart}
use Rattle.px_code.specs.Points as points
use Rattle.px_code.specs.Sends.{Keeps, NeedsSend, IsRightSend}
use Rattle.px_code.proofs.Alone.{alone}
use Rattle.px_points.specs.Marks.{is_marked}
use Rattle.px_points.specs.Places.{slot_points}
use Rattle.px_compile.specs.declared.facts.Facts.{Facts}
use Rattle.px_compile.specs.Kept.{fields_at}
use Rattle.px_compile.specs.Facts.{AreFacts}
use Rattle.px_compile.specs.Cutting.{writes_kept, send_if, send_of}
use Rattle.px_compile.proofs.Lists.{both_true, both_are}

module _ (code : Code) (sides : List Side) (facts : Facts) (known : AreFacts code sides facts) (m node : ℕ) where
  -- what a word writes, by its form
  abbrev pub IsWrite : Word → ℕ → Part → Type 0
  IsWrite (w.Put (Slot of) class field value) site part = PointsTo code (InSlot m of) site × (part ≡ Field field)
  IsWrite _ site part = ⊥

  is_write : (word : Word) (site : ℕ) (part : Part) → WritesPart code m word site part → IsWrite word site part
  is_write word site part (points.WritesPart.put {of} {class} {field} {s} {value} reaches) = (reaches, refl)

  needs : (of class field : ℕ) (value : Operand) → writes_kept facts sides m node of field ≡ true → NeedsSend code sides m node (w.Put (Slot of) class field value)
  needs of class field value writes =
      let t = both_true (slot_points facts.points m of) (is_marked (fields_at facts.kept (other (side_of sides node))) field) writes in
      record {
        site = 0;
        part = Field field;
        writes = points.WritesPart.put ((known.points.slots m of).0 t.0);
        kept = ((known.kept (other (side_of sides node)) field).0 t.1).1;
      }

  needs_only : (of class field : ℕ) (value : Operand) → field < length (main_fields code) → NeedsSend code sides m node (w.Put (Slot of) class field value) → writes_kept facts sides m node of field ≡ true
  needs_only of class field value room need =
      let write = is_write (w.Put (Slot of) class field value) need.site need.part need.writes in
      let none : need.site ≡ 0 = alone code (InSlot m of) need.site write.0 in
      let reaches : PointsTo code (InSlot m of) 0 = subst (λ s. PointsTo code (InSlot m of) s) none write.0 in
      let there : Side = other (side_of sides node) in
      let kept : Keeps code sides there 0 (Field field) = subst (λ s. Keeps code sides there s (Field field)) none (subst (λ (p : Part). Keeps code sides there need.site p) write.1 need.kept) in
      both_are (slot_points facts.points m of) (is_marked (fields_at facts.kept there) field) ((known.points.slots m of).1 reaches) ((known.kept there field).1 (room, kept))

  right_put : (of class field : ℕ) (value : Operand) (b : Bool) → field < length (main_fields code) → writes_kept facts sides m node of field ≡ b → IsRightSend code sides m node (w.Put (Slot of) class field value) (send_if b (record { home = side_of sides (field_node code class field); object = Slot of }))
  right_put of class field value true room is = (needs of class field value is, (refl, refl))
  right_put of class field value false room is = λ need. (let t = needs_only of class field value room need in absurd cc)

  no_send : (word : Word) → ((site : ℕ) (part : Part) → IsWrite word site part → ⊥) → NeedsSend code sides m node word → ⊥
  no_send word none need = none need.site need.part (is_write word need.site need.part need.writes)

  pub right_send : (slots : ℕ) (word : Word) → IsWordOf code slots word → IsRightSend code sides m node word (send_of code sides facts m node word)
  right_send slots (w.Put (Slot of) class field value) is = right_put of class field value (writes_kept facts sides m node of field) is.2.1 refl
  right_send slots (w.Put of class field value) is = no_send (w.Put of class field value) (λ site part h. h)
  right_send slots (w.Set to a) is = no_send (w.Set to a) (λ site part h. h)
  right_send slots (w.Op op to a b) is = no_send (w.Op op to a b) (λ site part h. h)
  right_send slots (w.Get to of class field) is = no_send (w.Get to of class field) (λ site part h. h)
  right_send slots (w.Return a) is = no_send (w.Return a) (λ site part h. h)
