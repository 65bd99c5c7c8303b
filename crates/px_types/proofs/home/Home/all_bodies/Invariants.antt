use Rattle.std.proofs.Common.{◌≡◌, ◌++◌, drop}
use Rattle.px_types.specs.Bodies.{all_found}
use Rattle.px_types.proofs.home.Home.all_bodies.Given as goal

abbrev pub invariant-loop-class : goal.invariant-loop-class
invariant-loop-class l = record {
  this : l.self.this ≡ l.class-index;
  nodes : l.known.nodes ++ (all_found l.self (drop l.class-index l.fn.classes)).nodes ≡ l.fn.known.nodes ++ (all_found l.fn.self l.fn.classes).nodes;
  methods : l.known.methods ++ (all_found l.self (drop l.class-index l.fn.classes)).methods ≡ l.fn.known.methods ++ (all_found l.fn.self l.fn.classes).methods;
}
