use Rattle.std.proofs.Common.{◌∙◌, [], ap, List, ℕ}
use Rattle.px_constraints.specs.Sites.{all_marked}
use Rattle.px_constraints.proofs.Marks.{made_marks, room_marks, next_marks, not_empty}
use Rattle.px_constraints.proofs.lists.Sites.push.Goals as goal

pub invariant_of-self-then-len-ge-FEW : goal.invariant_of-self-then-len-ge-FEW
invariant_of-self-then-len-ge-FEW c = made_marks _ _ (c.in_ok-self-inside.ensures ∙ ap (λ (z : List ℕ). all_marked [] z) c.as_slice-then-len-ge-FEW.ensures.value)

pub invariant_of-self-in_err-push-2 : goal.invariant_of-self-in_err-push-2
invariant_of-self-in_err-push-2 c = room_marks c.self.inside.items.items _ c.self.inside.marks.items _ _ c.in_ok-pad.ensures.ok c.in_err-push-2.ensures.items (not_empty c.self.inside.marks.items c.as_slice.result.now c.as_slice.ensures.value c.is_empty.result c.is_empty.ensures c.if-is_empty.false) c.self.invariant

pub invariant_of-self-else-is_empty : goal.invariant_of-self-else-is_empty
invariant_of-self-else-is_empty c = next_marks c.self.inside.items.items _ c.self.inside.marks.items _ c.args.site c.from-place.result c.from-place.ensures c.in_ok-pad.ensures.ok c.in_ok-push-2.ensures.items (not_empty c.self.inside.marks.items c.as_slice.result.now c.as_slice.ensures.value c.is_empty.result c.is_empty.ensures c.if-is_empty.false) c.self.invariant
