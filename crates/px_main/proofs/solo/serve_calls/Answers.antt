use Rattle.std.proofs.Common.{List, map, Vec, Global, ap, slice_get}
use Rattle.px_code.specs.declared.plan.Plan.{Plan}
use Rattle.px_code.specs.declared.reply.Done.{Done}
use Rattle.px_session.specs.Wanted.{wanted}
use Rattle.px_main.proofs.Planned.{servable, calls_go, done_by}
use Rattle.px_main.proofs.solo.serve_calls.Goals as goal

pub serve-requires-clause-plan : goal.serve-requires-clause-plan
serve-requires-clause-plan c =
    let one = c.in_ok-plans.ensures in
    (one.0, ap (λ (ps : List Plan). slice_get ps 0) one.1, servable c.args.code c.args.sides one.0 one.2 c.requires.formed)

pub serve-requires-clause-calls : goal.serve-requires-clause-calls
serve-requires-clause-calls c =
    let one = c.in_ok-plans.ensures in
    calls_go c.args.code c.args.sides c.in_ok-plans.plans.value.items one.0 (map wanted c.args.calls.now) one.2 one.1 c.requires.calls

pub returns : goal.returns
returns c =
    let one = c.in_ok-plans.ensures in
    done_by c.args.code c.args.sides c.in_ok-plans.plans.value.items one.0 (map wanted c.args.calls.now) one.2 one.1 (λ (v : Vec Done Global). v.items) c.serve.result c.serve.ensures
