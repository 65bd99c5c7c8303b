use Rattle.std.proofs.Common.{◌≡◌, ◌++◌, drop}
use Rattle.px_types.specs.Entries.{entries_from}
use Rattle.px_types.proofs.main_class.find_entries.Given as goal

abbrev pub invariant-loop-member : goal.invariant-loop-member
invariant-loop-member l = record {
  entries : l.entries ++ entries_from l.fn.numbers l.number (drop l.member-index l.fn.members) ≡ entries_from l.fn.numbers l.fn.first l.fn.members;
}
