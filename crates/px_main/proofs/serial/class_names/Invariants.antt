use Rattle.std.proofs.Common.{◌≡◌, ◌++◌, map, drop}
use Rattle.px_tree.specs.declared.Class.{Class}
use Rattle.px_main.proofs.serial.class_names.Given as goal

abbrev pub invariant-loop-class : goal.invariant-loop-class
invariant-loop-class l = map (λ (c : Class). c.name.bytes) l.fn.classes ≡ l.all.items ++ map (λ (c : Class). c.name.bytes) (drop l.class-index l.classes)
