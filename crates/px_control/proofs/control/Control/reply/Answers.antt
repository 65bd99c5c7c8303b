use Rattle.std.proofs.Common.{◌≡◌, List, Some, None, sym, ap, ◌∙◌, subst}
use Rattle.std.specs.Result.{IfOk}
use Rattle.px_value.specs.declared.value.Value.{Value}
use Rattle.px_blocks.specs.Machine.{Frame, Control, slots_at}
use Rattle.px_control.proofs.Reading.{read_slot}
use Rattle.px_control.proofs.control.Control.reply.Goals as goal

pub returns-in-Some : goal.returns-in-Some
returns-in-Some c =
    let all = c.slots_at.ensures ∙ ap (λ (frames : List Frame). slots_at frames 0) c.as_slice.ensures.value ∙ ap (λ (d : Control). slots_at d.frames 0) c.self.view_is in
    let P : Value → Type 0 = λ v. IfOk c.copy.result (λ r. r ≡ v) in
    subst P (sym (read_slot c.slots_at.result.now (slots_at c.args.self.now.frames 0) 0 (Some c.in-Some.slot.now) all c.in-Some.ensures)) c.copy.ensures

pub returns-in-None : goal.returns-in-None
returns-in-None c =
    let all = c.slots_at.ensures ∙ ap (λ (frames : List Frame). slots_at frames 0) c.as_slice.ensures.value ∙ ap (λ (d : Control). slots_at d.frames 0) c.self.view_is in
    sym (read_slot c.slots_at.result.now (slots_at c.args.self.now.frames 0) 0 None all c.in-None.ensures)
