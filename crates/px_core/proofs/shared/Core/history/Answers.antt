use Rattle.std.proofs.Common.{subst}
use Rattle.px_core.specs.Cored.{IsFaithfulCore}
use Rattle.px_core.proofs.Kept.{kept_faithful}
use Rattle.px_core.proofs.shared.Core.history.Goals as goal

pub returns-clause-faithful : goal.returns-clause-faithful
returns-clause-faithful c = subst IsFaithfulCore c.self.view_is (kept_faithful c.self.inside.program.value c.self.inside.job.value c.self.inside.first.value c.self.inside.engine c.self.invariant)
