use Rattle.std.proofs.Common.{subst, sym, IfOk}
use Rattle.px_engine.specs.Told.{IsNextCall, IsBegun}
use Rattle.px_core.specs.Cored.{Cored, calls_of_job, calls_in, history_of}
use Rattle.px_core.proofs.Kept.{next_seated, kept_begin}
use Rattle.px_core.proofs.shared.Core.begin.Goals as goal

pub begin-requires : goal.begin-requires
begin-requires c =
    let next = subst (λ (v : Cored). IsNextCall (calls_in v) (history_of v) c.args.session c.args.call) (sym c.self.view_is) c.requires.next in
    record { seated = next_seated c.self.inside.program.value c.self.inside.job.value c.self.inside.first.value c.self.inside.engine c.self.invariant c.args.session c.args.call next.due }

pub invariant_of-self : goal.invariant_of-self
invariant_of-self c =
    let next = subst (λ (v : Cored). IsNextCall (calls_in v) (history_of v) c.args.session c.args.call) (sym c.self.view_is) c.requires.next in
    let b = c.begin.ensures in
    let job = calls_of_job c.self.inside.job.value in
    kept_begin c.self.inside.program.value c.self.inside.job.value c.self.inside.first.value c.self.inside.engine c.self.invariant c.begin.result c.args.session c.args.call c.begin.new.self next.due
    (b.told job c.self.inside.first.value next c.self.invariant.sound) b.spare b.err (b.sound job c.self.inside.first.value next c.self.invariant.sound) b.places

pub returns-clause-told : goal.returns-clause-told
returns-clause-told c =
    let next = subst (λ (v : Cored). IsNextCall (calls_in v) (history_of v) c.args.session c.args.call) (sym c.self.view_is) c.requires.next in
    subst (λ (v : Cored). IfOk c.begin.result (λ told. IsBegun (calls_in v) told c.args.session c.args.call v.events c.begin.new.self.journal.events)) c.self.view_is
    (c.begin.ensures.told (calls_of_job c.self.inside.job.value) c.self.inside.first.value next c.self.invariant.sound)
