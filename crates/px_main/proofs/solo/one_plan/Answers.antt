use Rattle.std.proofs.Common.{ap, Vec, Global}
use Rattle.px_code.specs.declared.plan.Plan.{Plan}
use Rattle.px_main.proofs.Planned.{one_pushed}
use Rattle.px_main.proofs.solo.one_plan.Goals as goal

pub returns : goal.returns
returns c =
    let plan = c.in_ok-compile.field-0 in
    let made = c.in_ok-compile.ensures in
    let one = one_pushed c.new-plans.result.items c.push.new.self.items c.in_ok-new.field-0.value.items plan c.new-plans.ensures.items c.in_ok-push.ensures.items (ap (λ (v : Vec Plan Global). v.items) c.in_ok-new.ensures.ok) in
    (plan, one, record { code_is = made.code; placement_is = made.placement; blocks = made.blocks })
