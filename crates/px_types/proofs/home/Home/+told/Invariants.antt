use Rattle.std.proofs.Common.{◌≡◌, ◌++◌, drop, map}
use Rattle.px_types.specs.Told.{in_order, told}
use Rattle.px_types.proofs.home.Home.+told.Given as goal

abbrev pub invariant-block-loop-item : goal.invariant-block-loop-item
invariant-block-loop-item l = record {
  nodes : l.nodes ++ (in_order (map (told l.fn.self) (drop l.item-index l.fn.items)) l.scope).nodes ≡ l.fn.nodes ++ (in_order (map (told l.fn.self) l.fn.items) l.fn.scope).nodes;
  scope : (in_order (map (told l.fn.self) (drop l.item-index l.fn.items)) l.scope).scope ≡ (in_order (map (told l.fn.self) l.fn.items) l.fn.scope).scope;
}
