use Rattle.std.proofs.Common.{◌∙◌, ap, sym, subst, List}
use Rattle.px_normal.specs.declared.method.Method.{Method}
use Rattle.px_flow_points.specs.Numbers.{firsts, behind, method_sizes}
use Rattle.px_flow_points.specs.Exact.{PointsOf, ArePoints}
use Rattle.px_flow_points.proofs.Kept.{system_there, all_points}
use Rattle.px_flow_points.proofs.points.sets.Goals as goal

pub solve-requires : goal.solve-requires
solve-requires c = system_there c.args.code.now c.in_ok-methods.methods.of c.in_ok-sites.sites.of.items c.in_ok-methods.methods.behind c.in_ok-sites.sites.behind c.in_ok-system.system c.requires (c.in_ok-methods.ensures.of ∙ ap (λ (z : List Method). firsts 0 (method_sizes z)) c.as_slice.ensures) (c.in_ok-methods.ensures.behind ∙ ap (λ (z : List Method). behind 0 (method_sizes z)) c.as_slice.ensures) c.in_ok-sites.ensures.of c.in_ok-sites.ensures.behind c.in_ok-sites.ensures.fits c.in_ok-system.ensures

pub returns : goal.returns
returns c = subst (λ (z : PointsOf). ArePoints c.args.code.now z) (sym c.new.ensures) (all_points c.args.code.now c.in_ok-methods.methods.of c.in_ok-sites.sites.of.items c.into_cells.result.items c.in_ok-sets.sets.items c.in_ok-methods.methods.behind c.in_ok-sites.sites.behind c.in_ok-facts.facts c.in_ok-system.system c.requires (c.in_ok-methods.ensures.of ∙ ap (λ (z : List Method). firsts 0 (method_sizes z)) c.as_slice.ensures) (c.in_ok-methods.ensures.behind ∙ ap (λ (z : List Method). behind 0 (method_sizes z)) c.as_slice.ensures) c.in_ok-sites.ensures.of c.in_ok-sites.ensures.behind c.in_ok-sites.ensures.fits c.in_ok-system.ensures c.in_ok-facts.ensures c.in_ok-sets.ensures c.into_cells.ensures)
