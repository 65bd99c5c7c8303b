use Rattle.std.proofs.Common.{◌≡◌, ℕ, ◌-◌, ◌≤◌, ◌++◌, false, List, map, take, length, sym, ap, ◌∙◌, arith}
use Rattle.px_value.specs.declared.object.Object.{Object}
use Rattle.px_normal.specs.declared.code.Code.{Code}
use Rattle.px_blocks.specs.Machine.{Frame, Control}
use Rattle.px_blocks.specs.Message.{Updates, Transfer, all_settled, with_slots, with_cells, blank_frame, absorbed}
use Rattle.px_control.specs.Taken.{with_news}
use Rattle.px_control.specs.Refused.{machine}
use Rattle.px_control.specs.contracts.control.Control.{the_view}
use Rattle.px_control.specs.contracts.message.Transfer.{the_view as the_message}
use Rattle.px_control.proofs.Absorbing.{placed_is, quiet_settled, refused_as, tested, taken_here, absorbed_is}
use Rattle.px_control.proofs.control.Control.absorb.Goals as goal

pub returns-in-Err-clause-bad : goal.returns-in-Err-clause-bad
returns-in-Err-clause-bad g c =
    let heap : List Object = g.E.HeapEnd.objects c.args.end.now in
    let lower : List Frame = take c.transfer.inside.base c.as_slice-2.result.now in
    let el : lower ≡ take c.transfer.inside.base c.self.inside.frames.items = ap (take c.transfer.inside.base) (c.as_slice-2.ensures.value ∙ c.in_ok-reserve.ensures.items) in
    let within : c.transfer.inside.base ≤ length c.self.inside.frames.items = omega (arith, c.self.inside.frames.ok) in
    refused_as (Unit {0}) ℕ (tested c.args.code.now c.args.transfer (lower ++ c.as_slice-3.result.now) heap ≡ false) _ c.in-Err.error (λ h plan e.
    taken_here plan c.args.code.now (the_message c.transfer.inside) c.args.transfer (the_view c.self.inside) c.args.self.now lower c.as_slice-3.result.now heap e c.transfer.view_is c.self.view_is el (c.as_slice-3.ensures.value ∙ c.in_ok-news.ensures.blank plan e ∙ ap (map (blank_frame plan)) c.as_slice.ensures.value) within ∙ h) c.in-Err.ensures.bad

pub invariant_of-self-2 : goal.invariant_of-self-2
invariant_of-self-2 g c = record {
  within = omega (arith, c.take_frames.new.frames.ok);
  quiet = quiet_settled (c.len-self-inside.result - 1) _ c.take_frames.new.frames.items (c.take_frames.ensures ∙ placed_is c.transfer.inside.slots.items (take c.transfer.inside.base c.reserve.new.self.items ++ c.in_ok-news.news.items));
}

pub returns-clause-taken : goal.returns-clause-taken
returns-clause-taken g c = λ plan e.
    let heap : List Object = g.E.HeapEnd.objects c.args.end.now in
    let lower : List Frame = take c.transfer.inside.base c.as_slice-2.result.now in
    let el : lower ≡ take c.transfer.inside.base c.self.inside.frames.items = ap (take c.transfer.inside.base) (c.as_slice-2.ensures.value ∙ c.in_ok-reserve.ensures.items) in
    let within : c.transfer.inside.base ≤ length c.self.inside.frames.items = omega (arith, c.self.inside.frames.ok) in
    taken_here plan c.args.code.now (the_message c.transfer.inside) c.args.transfer (the_view c.self.inside) c.args.self.now lower c.as_slice-3.result.now heap e c.transfer.view_is c.self.view_is el (c.as_slice-3.ensures.value ∙ c.in_ok-news.ensures.blank plan e ∙ ap (map (blank_frame plan)) c.as_slice.ensures.value) within ∙ c.in_default.ensures.ok

pub returns-clause-absorbed : goal.returns-clause-absorbed
returns-clause-absorbed g c = λ plan e.
    let heap : List Object = g.E.HeapEnd.objects c.args.end.now in
    let T : Transfer = the_message c.transfer.inside in
    let en =
    c.write_cells.ensures.written
    ∙ ap (with_cells c.updates.inside.cells.items) c.in_default.ensures.news
    ∙ ap (λ (x : Transfer). with_cells c.updates.inside.cells.items (with_news c.args.code.now x.updates.headers heap)) (sym c.transfer.view_is)
    ∙ ap (λ (k : Code). with_cells c.updates.inside.cells.items (with_news k T.updates.headers heap)) (sym e)
    ∙ ap (λ (u : Updates). with_cells u.cells (with_news plan.code T.updates.headers heap)) c.updates.view_is
    in
    let ef =
    c.take_frames.ensures
    ∙ placed_is T.slots (take T.base c.reserve.new.self.items ++ c.in_ok-news.news.items)
    ∙ ap (λ (xs : List Frame). all_settled (with_slots T.slots (take T.base xs ++ c.in_ok-news.news.items))) c.in_ok-reserve.ensures.items
    ∙ ap (λ (xs : List Frame). all_settled (with_slots T.slots (take T.base c.self.inside.frames.items ++ xs))) (c.in_ok-news.ensures.blank plan e ∙ ap (map (blank_frame plan)) c.as_slice.ensures.value)
    in
    let eb : c.len-self-inside.result ≡ length c.take_frames.new.frames.items = omega (arith, c.take_frames.new.frames.ok) in
    sym (ap (λ (x : Transfer). absorbed plan x (machine heap c.args.self.now)) c.transfer.view_is)
    ∙ sym (ap (λ (x : Control). absorbed plan T (machine heap x)) c.self.view_is)
    ∙ absorbed_is plan T (the_view c.self.inside) heap (g.E.HeapEnd.objects c.write_cells.new.end) c.take_frames.new.frames.items c.len-self-inside.result c.clear.new.self c.clear-2.new.self c.len-self-inside-2.result en ef eb c.clear.ensures c.clear-2.ensures (c.len-self-inside-2.ensures ∙ ap length c.heap-2.ensures.heap)
