use Rattle.std.proofs.Common.{◌≡◌, ℕ, ◌-◌, List, take, min, sym, ap, ◌∙◌}
use Rattle.px_blocks.specs.Machine.{Frame, top, back_from, left_with}
use Rattle.px_control.specs.contracts.control.Control.{the_view}
use Rattle.px_control.specs.Stack.{filled_if, machine_back}
use Rattle.px_control.proofs.Leaving.{left_is, quiet_left}
use Rattle.px_control.proofs.control.Control.leave.Goals as goal

pub invariant_of-self : goal.invariant_of-self
invariant_of-self c =
    let frames : List Frame = c.self.inside.frames.items in
    let t : c.top-running.result ≡ top frames = c.top-running.ensures ∙ ap top c.as_slice-2.ensures.value in
    let s : c.saturating_sub.result ≡ top frames - 1 = c.saturating_sub.ensures ∙ ap (λ (k : ℕ). k - 1) t in
    let ef = c.fill.ensures ∙ ap (λ (k : ℕ). filled_if frames k c.back_from-back.result.to c.unwrap_or.result) s in
    let er = c.truncate.ensures.items ∙ ap (λ (k : ℕ). take k c.fill.new.frames.items) t in
    let ee = c.min-self-inside.ensures ∙ ap (min c.self.inside.base) t in
    quiet_left c.self.inside.base frames c.fill.new.frames.items c.truncate.new.self.items c.back_from-back.result.to c.unwrap_or.result c.min-self-inside.result c.self.invariant ef er ee

pub returns : goal.returns
returns c =
    let frames : List Frame = c.self.inside.frames.items in
    let t : c.top-running.result ≡ top frames = c.top-running.ensures ∙ ap top c.as_slice-2.ensures.value in
    let s : c.saturating_sub.result ≡ top frames - 1 = c.saturating_sub.ensures ∙ ap (λ (k : ℕ). k - 1) t in
    let ef = c.fill.ensures ∙ ap (λ (k : ℕ). filled_if frames k c.back_from-back.result.to c.unwrap_or.result) s ∙ ap (filled_if frames (top frames - 1) c.back_from-back.result.to) c.unwrap_or.ensures in
    let er = c.truncate.ensures.items ∙ ap (λ (k : ℕ). take k c.fill.new.frames.items) t in
    let ee = c.min-self-inside.ensures ∙ ap (min c.self.inside.base) t in
    let eb : machine_back c.back_from-back.result ≡ back_from c.args.blocks.now frames = c.back_from-back.ensures ∙ ap (back_from c.args.blocks.now) c.as_slice.ensures.value in
    sym (ap (left_with c.args.blocks.now c.args.value) c.self.view_is)
    ∙ left_is c.args.blocks.now c.args.value (the_view c.self.inside) c.back_from-back.result c.fill.new.frames.items c.truncate.new.self.items c.min-self-inside.result eb ef er ee
