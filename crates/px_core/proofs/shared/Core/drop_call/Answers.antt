use Rattle.std.proofs.Common.{◌≡◌, true, refl, subst, sym}
use Rattle.px_history.specs.declared.event.Event.TheVariants.{Drop}
use Rattle.px_history.specs.Attempts.{is_active}
use Rattle.px_core.specs.Cored.{Cored, calls_of_job, history_of}
use Rattle.px_core.proofs.Kept.{now_room, kept_out}
use Rattle.px_core.proofs.shared.Core.drop_call.Goals as goal

pub drop_call-requires-clause-room : goal.drop_call-requires-clause-room
drop_call-requires-clause-room c =
    let active = subst (λ (v : Cored). is_active c.args.session (history_of v) ≡ true) (sym c.self.view_is) c.requires.active in
    now_room c.self.inside.program.value c.self.inside.job.value c.self.inside.first.value c.self.inside.engine c.self.invariant c.args.session active

pub invariant_of-self : goal.invariant_of-self
invariant_of-self c =
    let active = subst (λ (v : Cored). is_active c.args.session (history_of v) ≡ true) (sym c.self.view_is) c.requires.active in
    let r = c.drop_call.ensures in
    kept_out c.self.inside.program.value c.self.inside.job.value c.self.inside.first.value c.self.inside.engine c.self.invariant (Drop c.args.session) tt (λ xs. refl) active
    c.drop_call.new.self r.events (r.sound (calls_of_job c.self.inside.job.value) c.self.inside.first.value active c.self.invariant.sound) r.places r.spare
