use Rattle.std.proofs.Common.{◌≡◌, ◌<◌, ◌^◌, ◌++◌, drop}
use Rattle.px_flow_points.specs.Numbers.{cells_from, behind, site_sizes, all_site_sizes}
use Rattle.px_flow_points.proofs.numbers.number_sites.Given as goal

abbrev pub invariant-loop-site : goal.invariant-loop-site
invariant-loop-site l = record {
  of : l.cells.items ++ cells_from l.next (site_sizes l.code (drop l.site-index l.code.sites)) ≡ cells_from l.first (all_site_sizes l.code);
  behind : behind l.next (site_sizes l.code (drop l.site-index l.code.sites)) ≡ behind l.first (all_site_sizes l.code);
  fits : l.next < 2 ^ 32;
}
