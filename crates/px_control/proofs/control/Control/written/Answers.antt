use Rattle.std.proofs.Common.{◌≡◌, ℕ, List, drop, ap, ◌∙◌, subst}
use Rattle.std.specs.Result.{IfOk}
use Rattle.px_blocks.specs.Machine.{Frame, Control}
use Rattle.px_blocks.specs.Message.{SlotAt, written_slots}
use Rattle.px_control.proofs.Written.{written_above}
use Rattle.px_control.proofs.control.Control.written.Goals as goal

pub returns : goal.returns
returns c =
    let e =
    ap (λ (fs : List Frame). written_slots c.saturating_sub.result (drop c.saturating_sub.result fs)) c.as_slice.ensures.value
    ∙ ap (λ (k : ℕ). written_slots k (drop k c.self.inside.frames.items)) c.saturating_sub.ensures
    ∙ written_above c.self.inside.base c.self.inside.frames.items c.self.invariant
    ∙ ap (λ (d : Control). written_slots 0 d.frames) c.self.view_is
    in
    let P : List SlotAt → Type 0 = λ slots. IfOk c.slots_told.result (λ told. told.items ≡ slots) in
    subst P e c.slots_told.ensures
