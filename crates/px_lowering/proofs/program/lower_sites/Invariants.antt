use Rattle.std.proofs.Common.{◌≡◌, [], drop}
use Rattle.px_lowering.specs.Programs.{lowered_sites}
use Rattle.px_lowering.proofs.program.lower_sites.Given as goal

abbrev pub invariant-loop-allocation : goal.invariant-loop-allocation
invariant-loop-allocation l = record {
  sites : (lowered_sites l.fn.checked l.fn.found l.fn.nodes []).sites ≡ (lowered_sites l.fn.checked (drop l.allocation-index l.fn.found) l.nodes l.sites).sites;
  nodes : (lowered_sites l.fn.checked l.fn.found l.fn.nodes []).nodes ≡ (lowered_sites l.fn.checked (drop l.allocation-index l.fn.found) l.nodes l.sites).nodes;
}
