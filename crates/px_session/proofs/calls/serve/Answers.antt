use Rattle.std.proofs.Common.{◌≡◌, ◌+◌, length, sym, ap, subst, refl, ◌∙◌, arith, map, drop, Some, List}
use Rattle.std.proofs.lemmas.Option.{slice_get_read}
use Rattle.px_code.specs.declared.plan.Plan.{Plan}
use Rattle.px_code.specs.declared.reply.Done.{Done}
use Rattle.px_pair.specs.Callable.{IsCallable}
use Rattle.px_pair.specs.Pair.{State, new_pair}
use Rattle.px_session.specs.Serving.{Call}
use Rattle.px_session.specs.Wanted.{wanted}
use Rattle.px_session.proofs.Loops.{Goes, goes_first, goes_next, goes_last, left_at, none_left, call_at}
use Rattle.px_session.proofs.calls.serve.Goals as goal

pub loop-call-init : goal.loop-call-init
loop-call-init c =
    subst (λ (p : State). Goes c.args.plans.now.value.items (map wanted c.args.calls.now) (map wanted c.args.calls.now) c.new-dones.result.items p) (sym c.in_ok-pair.ensures)
    (subst (λ (ds : List Done). Goes c.args.plans.now.value.items (map wanted c.args.calls.now) (map wanted c.args.calls.now) ds (new_pair c.args.plans.now.value.items)) (sym c.new-dones.ensures.items) (goes_first c.args.plans.now.value.items (map wanted c.args.calls.now) c.requires.plan))

pub serve_one-requires-clause-callable : goal.serve_one-requires-clause-callable
serve_one-requires-clause-callable c = λ plan is.
    let g : Goes c.args.plans.now.value.items (map wanted c.args.calls.now) _ c.loop-call.dones.items c.loop-call.pair = c.loop-call.invariant in
    let same : g.plan ≡ plan = let e : Some g.plan ≡ Some plan = sym g.resting.app_plan ∙ is in cc in
    call_at (λ (x : Call). IsCallable plan.code x.method x.args) c.args.calls.now c.loop-call.call-index c.call-item.result (c.requires.calls plan (g.is ∙ ap (λ (q : Plan). Some q) same))
    (slice_get_read c.args.calls.now (length c.args.calls.now) c.loop-call.call-index c.call-item.result refl (omega arith) c.call-item.is)

pub loop-call-preserved : goal.loop-call-preserved
loop-call-preserved c =
    let found = slice_get_read c.args.calls.now (length c.args.calls.now) c.loop-call.call-index c.call-item.result refl (omega arith) c.call-item.is in
    subst (λ (ds : List Done). Goes c.args.plans.now.value.items (map wanted c.args.calls.now) (map wanted (drop (c.loop-call.call-index + 1) c.args.calls.now)) ds c.serve_one.new.pair) (sym c.in_ok-push.ensures.items)
    (goes_next c.args.plans.now.value.items (map wanted c.args.calls.now) (map wanted (drop (c.loop-call.call-index + 1) c.args.calls.now)) c.loop-call.dones.items c.loop-call.pair c.serve_one.new.pair (wanted c.call-item.result) c.in_ok-serve_one.field-0
    (subst (λ (cs : List Call). Goes c.args.plans.now.value.items (map wanted c.args.calls.now) cs c.loop-call.dones.items c.loop-call.pair) (left_at c.args.calls.now c.loop-call.call-index c.call-item.result found) c.loop-call.invariant)
    (λ plan is. call_at (λ (x : Call). IsCallable plan.code x.method x.args) c.args.calls.now c.loop-call.call-index c.call-item.result (c.requires.calls plan is) found)
    c.in_ok-serve_one.ensures)

pub returns : goal.returns
returns c = goes_last c.args.plans.now.value.items (map wanted c.args.calls.now) _ c.loop-call.dones.items c.loop-call.pair (none_left c.args.calls.now c.loop-call.call-index (omega arith)) c.loop-call.invariant
