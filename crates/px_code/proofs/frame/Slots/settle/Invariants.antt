use Rattle.std.proofs.Common.{◌≡◌, ◌++◌, take, drop, length}
use Rattle.px_code.specs.Slots.{all_settled}
use Rattle.px_code.proofs.frame.Slots.settle.Given as goal

abbrev pub invariant-loop-at : goal.invariant-loop-at
invariant-loop-at l = record {
  same : length l.self-inside.items.items ≡ length l.fn.self;
  done : all_settled (take l.at l.fn.self) ++ drop l.at l.fn.self ≡ l.self-inside.items.items;
}
