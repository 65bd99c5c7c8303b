use Rattle.std.proofs.Common.{◌≡◌, ◌+◌, List, [], ◌∷◌, ◌++◌, drop, get_or, ap, ◌∙◌, arith}
use Rattle.px_blocks.specs.Machine.{Slot, just_written, unwritten, given}
use Rattle.std.specs.Vec.Iter.{into_iter_items}
use Rattle.px_normal.specs.declared.ty.Ty.TheVariants.{Int}
use Rattle.px_value.specs.declared.value.Value.{Value}
use Rattle.px_control.proofs.Given.{blank_of, blanks_of, next_given, next_blank, none_is_left, all_given}
use Rattle.px_control.proofs.blanks.entered_slots.Goals.{in-Some+in_ok-push_written-in-Some, in-None+in_ok-push_blank-in-None}
use Rattle.px_control.proofs.blanks.entered_slots.Goals as goal

pub loop-ty-preserved : goal.loop-ty-preserved
loop-ty-preserved c = elim c.match-next.branch [
  | in-Some+in_ok-push_written-in-Some w ↦
      let e : c.match-next.slots ≡ c.loop-ty.slots ++ just_written w.in-Some.value ∷ [] = w.slots-is ∙ w.in_ok-push_written-in-Some.ensures.ok in
      ap (λ (slots : List Slot). slots ++ given (into_iter_items c.next.new.self) (blanks_of (drop (c.loop-ty.ty-index + 1) c.types-ty-items.result.now))) e
      ∙ next_given c.loop-ty.slots w.in-Some.value (into_iter_items c.loop-ty.args) (into_iter_items c.next.new.self) c.types-ty-items.result.now c.loop-ty.ty-index Int _ c.loop-ty-test.true w.in-Some.ensures.cases.0 c.loop-ty.invariant
  | in-None+in_ok-push_blank-in-None w ↦
      let e : c.match-next.slots ≡ c.loop-ty.slots ++ blank_of (get_or c.types-ty-items.result.now c.loop-ty.ty-index Int) ∷ [] = w.slots-is ∙ w.in_ok-push_blank-in-None.ensures.ok ∙ ap (λ (v : Value). c.loop-ty.slots ++ unwritten v ∷ []) w.default_value.ensures in
      let was : into_iter_items c.loop-ty.args ≡ [] = none_is_left _ (omega (arith, w.in-None.ensures.cases, c.loop-ty.args.rest.ok)) in
      let rest : into_iter_items c.next.new.self ≡ [] = none_is_left _ (omega (arith, w.in-None.ensures.cases, c.next.new.self.rest.ok)) in
      ap (λ (slots : List Slot). slots ++ given (into_iter_items c.next.new.self) (blanks_of (drop (c.loop-ty.ty-index + 1) c.types-ty-items.result.now))) e
      ∙ next_blank c.loop-ty.slots (into_iter_items c.loop-ty.args) (into_iter_items c.next.new.self) c.types-ty-items.result.now c.loop-ty.ty-index Int _ c.loop-ty-test.true was rest c.loop-ty.invariant
]

pub returns : goal.returns
returns c = all_given c.loop-ty.slots (into_iter_items c.loop-ty.args) c.types-ty-items.result.now c.loop-ty.ty-index _ c.loop-ty-test.false c.loop-ty.invariant
