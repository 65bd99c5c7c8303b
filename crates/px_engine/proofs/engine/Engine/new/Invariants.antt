use Rattle.std.proofs.Common.{◌≡◌, List, [], length, All}
use Rattle.px_rows.specs.Tables.{Old}
use Rattle.px_engine.proofs.engine.Engine.new.Given as goal

abbrev pub invariant-loop-made : goal.invariant-loop-made
invariant-loop-made l = record {
  count : length l.undos.items ≡ l._made;
  none : All (λ (u : List Old). u ≡ []) l.undos.items;
}
