use Rattle.std.proofs.Common.{◌≡◌, ℕ, ◌+◌, ◌<◌, ◌≤◌, List, [], ◌∷◌, ◌++◌, length, sym, ap, ◌∙◌, arith}
use Rattle.px_blocks.specs.Machine.{Frame, Slot, entered, goes}
use Rattle.px_control.specs.contracts.control.Control.{the_view}
use Rattle.px_control.proofs.Calling.{overflows, enters}
use Rattle.px_control.proofs.control.Control.call.Goals as goal

abbrev framed : ℕ → ℕ → List Slot → Frame
framed method back slots = record { method = method; back = back; slots = slots }

pub returns-then-len-clause-called : goal.returns-then-len-clause-called
returns-then-len-clause-called c =
    let deep : 200 < length c.self.inside.frames.items = omega (arith, c.self.inside.frames.ok) in
    overflows c.args.code.now c.args.entry c.args.method c.args.back c.args.args.items (the_view c.self.inside) c.args.self.now c.self.view_is c.if-self-ge-MAX_TURNS.false deep

pub returns-clause-called : goal.returns-clause-called
returns-clause-called c =
    let few : length c.self.inside.frames.items ≤ 200 = omega (arith, c.self.inside.frames.ok) in
    let frame : c.new.result ≡ entered c.args.code.now c.args.method c.args.back c.args.args.items = c.new.ensures ∙ ap (λ (slots : List Slot). framed c.args.method c.args.back slots) c.in_ok-slots.ensures in
    let frames : c.push.new.self.items ≡ c.self.inside.frames.items ++ entered c.args.code.now c.args.method c.args.back c.args.args.items ∷ [] = c.in_ok-push.ensures.items ∙ ap (λ (f : Frame). c.self.inside.frames.items ++ f ∷ []) frame in
    enters c.args.code.now c.args.entry c.args.method c.args.back c.args.args.items (the_view c.self.inside) c.args.self.now c.self.view_is c.if-self-ge-MAX_TURNS.false few
    ∙ ap (λ (fs : List Frame). goes c.args.entry (record (the_view c.self.inside) { frames = fs; turns = c.self.inside.turns + 1 })) (sym frames)
