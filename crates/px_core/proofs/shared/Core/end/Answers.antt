use Rattle.std.proofs.Common.{refl, subst, sym}
use Rattle.px_history.specs.declared.event.Event.TheVariants.{End}
use Rattle.px_core.specs.Cored.{Cored, calls_of_job, EndsNext}
use Rattle.px_core.proofs.Kept.{now_room, kept_out}
use Rattle.px_core.proofs.shared.Core.end.Goals as goal

pub end-requires-clause-room : goal.end-requires-clause-room
end-requires-clause-room c =
    let ends = subst (λ (v : Cored). EndsNext v c.args.session c.args.done) (sym c.self.view_is) c.requires.ends in
    now_room c.self.inside.program.value c.self.inside.job.value c.self.inside.first.value c.self.inside.engine c.self.invariant c.args.session (ends.may).active

pub invariant_of-self : goal.invariant_of-self
invariant_of-self c =
    let ends = subst (λ (v : Cored). EndsNext v c.args.session c.args.done) (sym c.self.view_is) c.requires.ends in
    let r = c.end.ensures in
    kept_out c.self.inside.program.value c.self.inside.job.value c.self.inside.first.value c.self.inside.engine c.self.invariant (End c.args.session c.args.done) ends.ended (λ xs. refl) (ends.may).active
    c.end.new.self r.events (r.sound (calls_of_job c.self.inside.job.value) c.self.inside.first.value ends.may c.self.invariant.sound) r.places r.spare
