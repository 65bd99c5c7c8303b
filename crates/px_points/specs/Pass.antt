-- A pass over statements: each marks what its reference flows into.
use Rattle.std.specs.Prelude.{ℕ, ◌+◌, Bool, true, false, ◌&&◌, ◌||◌, List, [], ◌∷◌}
use Rattle.px_code.specs.declared.word.Operand.TheVariants.{Slot}
use Rattle.px_code.specs.declared.word.Word.{Word}
use Rattle.px_code.specs.declared.word.Word.TheVariants as w
use Rattle.px_code.specs.declared.method.Method.{Method}
use Rattle.px_code.specs.declared.method.Tree.{Tree}
use Rattle.px_code.specs.declared.method.Tree.TheVariants.{Do}
use Rattle.px_points.specs.declared.pass.Draft.{Draft}
use Rattle.px_points.specs.Marks.{is_marked, is_open}
use Rattle.px_points.specs.Places.{marks_at, slot_at, with_slot, with_field}

abbrev pub after_slot : Bool → ℕ → ℕ → Draft → Draft
after_slot true place n d = record { points = with_slot d.points place n; changed = is_open (marks_at d.points.slots place) n || d.changed }
after_slot false place n d = d

abbrev pub after_field : Bool → ℕ → Draft → Draft
after_field true n d = record { points = with_field d.points n; changed = is_open d.points.fields n || d.changed }
after_field false n d = d

abbrev pub after_word : ℕ → Word → Draft → Draft
after_word place (w.Set to (Slot from)) d = after_slot (slot_at d.points place from) place to d
after_word place (w.Get to (Slot of) class field) d = after_slot (slot_at d.points place of && is_marked d.points.fields field) place to d
after_word place (w.Put (Slot of) class field (Slot value)) d = after_field (slot_at d.points place of && slot_at d.points place value) field d
after_word place _ d = d

abbrev pub after_tree : ℕ → Tree → Draft → Draft
after_tree place (Do node word) d = after_word place word d

abbrev pub after_body : ℕ → List Tree → Draft → Draft
after_body place [] d = d
after_body place (tree ∷ trees) d = after_body place trees (after_tree place tree d)

abbrev pub after_methods : ℕ → List Method → Draft → Draft
after_methods place [] d = d
after_methods place (method ∷ methods) d = after_methods (place + 1) methods (after_body place method.body d)
