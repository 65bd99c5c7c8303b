use Rattle.std.proofs.Common.{◌≡◌, ◌++◌, map, drop}
use Rattle.px_straight.specs.Simple.{simple_class}
use Rattle.px_straight.proofs.methods.simple_classes.Given as goal

abbrev pub invariant-loop-class : goal.invariant-loop-class
invariant-loop-class l = l.all ++ map simple_class (drop l.class-index l.fn.classes) ≡ map simple_class l.fn.classes
