use Rattle.std.proofs.Common.{◌++◌, List, ap, ◌∙◌, subst}
use Rattle.px_normal.specs.declared.ty.Ty.{Ty}
use Rattle.px_normal.specs.declared.method.Tree.{Tree}
use Rattle.px_depend.specs.declared.places.Place.{Place}
use Rattle.px_depend.specs.Places.{IsSummary}
use Rattle.px_depend.specs.Summaries.{Adds, IsMet, shapes, given_all}
use Rattle.px_depend.proofs.Given.{method_adds}
use Rattle.px_depend.proofs.slots.method_edges.Goals as goal

pub returns : goal.returns
returns c = method_adds c.args.method.now c.in_ok-body.body c.args.into.now.items c.trees.new.into.items c.parameters.new.into.items
    (subst (λ (z : List Tree). IsSummary c.in_ok-body.body (shapes z)) c.as_slice.ensures c.in_ok-body.ensures.sum)
    (subst (λ (z : List Ty). Adds c.args.into.now.items c.trees.new.into.items (IsMet z (shapes c.args.method.now.body))) c.as_slice-types.ensures (subst (λ (z : List Tree). Adds c.args.into.now.items c.trees.new.into.items (IsMet c.as_slice-types.result.now (shapes z))) c.as_slice.ensures c.in_ok-body.ensures.met))
    (c.in_ok-parameters.ensures
    ∙ ap (λ (z : List Ty). c.trees.new.into.items ++ given_all z c.args.method.now.params c.args.method.now.node c.as_slice-2.result.now) c.as_slice-types.ensures
    ∙ ap (λ (z : List Place). c.trees.new.into.items ++ given_all c.args.method.now.slots c.args.method.now.params c.args.method.now.node z) c.as_slice-2.ensures.value)
