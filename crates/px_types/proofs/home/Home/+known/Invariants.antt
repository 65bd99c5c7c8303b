use Rattle.std.proofs.Common.{◌≡◌, ◌++◌, drop, map}
use Rattle.px_types.specs.Known.{argument_nodes, known}
use Rattle.px_types.proofs.home.Home.+known.Given as goal

abbrev pub invariant-arguments-loop-arg : goal.invariant-arguments-loop-arg
invariant-arguments-loop-arg l = record {
  nodes : l.nodes ++ argument_nodes l.fn.scope (map (known l.fn.self) (drop l.arg-index l.fn.args)) ≡ l.fn.nodes ++ argument_nodes l.fn.scope (map (known l.fn.self) l.fn.args);
}
