use Rattle.std.proofs.Common.{sym, subst}
use Rattle.px_points.proofs.Flows.{Holds}
use Rattle.px_points.proofs.Beginning.{holds_first}
use Rattle.px_points.proofs.Passes.{holds_after, fewer_after, exact_after}
use Rattle.px_points.proofs.analysis.points_to.Goals as goal

pub passes-init : goal.passes-init
passes-init c = subst (Holds c.args.code.now) (sym c.in_ok-points.ensures) (holds_first c.args.code.now c.requires)

pub returns-then-not-changed : goal.returns-then-not-changed
returns-then-not-changed c = exact_after c.args.code.now _ c.passes.points _ c.as_slice.ensures c.pass-after.ensures c.requires c.passes.invariant c.if-not-changed.true

pub passes-smaller : goal.passes-smaller
passes-smaller c = fewer_after c.args.code.now _ c.passes.points _ c.as_slice.ensures c.pass-after.ensures c.if-not-changed.false

pub passes-preserved : goal.passes-preserved
passes-preserved c = holds_after c.args.code.now _ c.passes.points _ c.as_slice.ensures c.pass-after.ensures c.passes.invariant
