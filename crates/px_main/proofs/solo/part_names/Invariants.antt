use Rattle.std.proofs.Common.{◌≡◌, ◌++◌, map, drop}
use Rattle.px_main.specs.Solo.{part_name}
use Rattle.px_main.proofs.solo.part_names.Given as goal

abbrev pub invariant-loop-part : goal.invariant-loop-part
invariant-loop-part l = map part_name l.fn.parts ≡ l.all.items ++ map part_name (drop l.part-index l.parts)
