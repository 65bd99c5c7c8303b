use Rattle.std.proofs.Common.{subst, sym, IfOk}
use Rattle.px_engine.specs.Told.{IsOpped}
use Rattle.px_core.specs.Cored.{Cored, calls_of_job, AsksNext}
use Rattle.px_core.proofs.Kept.{now_room, kept_op}
use Rattle.px_core.proofs.shared.Core.op.Goals as goal

pub op-requires-clause-room : goal.op-requires-clause-room
op-requires-clause-room c =
    let asks = subst (λ (v : Cored). AsksNext v c.args.session c.args.op) (sym c.self.view_is) c.requires.asks in
    now_room c.self.inside.program.value c.self.inside.job.value c.self.inside.first.value c.self.inside.engine c.self.invariant c.args.session asks.active

pub invariant_of-self : goal.invariant_of-self
invariant_of-self c =
    let asks = subst (λ (v : Cored). AsksNext v c.args.session c.args.op) (sym c.self.view_is) c.requires.asks in
    let o = c.op.ensures in
    let job = calls_of_job c.self.inside.job.value in
    kept_op c.self.inside.program.value c.self.inside.job.value c.self.inside.first.value c.self.inside.engine c.self.invariant c.op.result c.args.session c.args.op c.op.new.self asks.active asks.asked
    (o.told job c.self.inside.first.value asks.active c.self.invariant.sound) o.spare o.err o.err_spare (o.sound job c.self.inside.first.value asks.active c.self.invariant.sound) o.places

pub returns-clause-told : goal.returns-clause-told
returns-clause-told c =
    let asks = subst (λ (v : Cored). AsksNext v c.args.session c.args.op) (sym c.self.view_is) c.requires.asks in
    subst (λ (v : Cored). IfOk c.op.result (λ told. IsOpped v.first c.args.session c.args.op told v.events c.op.new.self.journal.events)) c.self.view_is
    (c.op.ensures.told (calls_of_job c.self.inside.job.value) c.self.inside.first.value asks.active c.self.invariant.sound)
