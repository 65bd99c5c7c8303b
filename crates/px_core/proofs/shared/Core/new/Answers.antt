use Rattle.std.proofs.Common.{ℕ, ◌+◌, ap, ◌∙◌, refl, subst, sym}
use Rattle.px_rows.specs.Tables.{Tables}
use Rattle.px_job.specs.declared.job.Job.{Job as JobOfFile}
use Rattle.px_core.specs.Cored.{calls_of_job}
use Rattle.px_core.specs.Kept.{IsKeptBy}
use Rattle.px_core.proofs.Kept.{kept_new}
use Rattle.px_core.proofs.shared.Core.new.Goals as goal

pub invariant_of-result : goal.invariant_of-result
invariant_of-result c =
    let f = c.in_ok-engine.ensures {u = tt} in
    let sessions = ap (λ (n : ℕ). n + 1) c.from-sessions.ensures in
    subst (λ (y : JobOfFile × Tables). IsKeptBy c.of.result.value y.0 y.1 c.in_ok-engine.engine) (λ j. (sym c.of-2.ensures j, sym c.of-first.ensures j))
    (kept_new c.of.result.value c.args.job.now c.args.tables c.in_ok-engine.engine c.requires.job (f.empty).0 (f.sound (calls_of_job c.args.job.now) refl) ((f.sessions).0 ∙ sessions, (f.sessions).1 ∙ sessions))
