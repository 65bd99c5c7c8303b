use Rattle.std.proofs.Common.{◌≡◌, ◌++◌, drop}
use Rattle.px_types.specs.Bodies.{class_found}
use Rattle.px_types.proofs.home.Home.class_bodies.Given as goal

abbrev pub invariant-loop-member : goal.invariant-loop-member
invariant-loop-member l = record {
  nodes : l.known.nodes ++ (class_found l.fn.self (drop l.member-index l.fn.members)).nodes ≡ l.fn.known.nodes ++ (class_found l.fn.self l.fn.members).nodes;
  methods : l.known.methods ++ (class_found l.fn.self (drop l.member-index l.fn.members)).methods ≡ l.fn.known.methods ++ (class_found l.fn.self l.fn.members).methods;
}
