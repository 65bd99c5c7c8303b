use Rattle.std.proofs.Common.{◌≡◌, drop}
use Rattle.px_types.specs.Entries.{main_from}
use Rattle.px_types.proofs.main_class.find_main.Given as goal

abbrev pub invariant-loop-class : goal.invariant-loop-class
invariant-loop-class l = record {
  number : l.number ≡ l.class-index;
  main : main_from l.fn.numbers l.fn.firsts l.number (drop l.class-index l.fn.classes) ≡ main_from l.fn.numbers l.fn.firsts 0 l.fn.classes;
}
