use Rattle.std.proofs.Common.{◌≡◌, drop}
use Rattle.px_constraints.specs.Search.{loaded}
use Rattle.px_constraints.proofs.search.Search.load.Given as goal

abbrev pub invariant-loop-look : goal.invariant-loop-look
invariant-loop-look l = loaded l.system.cells (drop l.look-index l.looks) l.site l.self ≡ loaded l.system.cells l.looks l.site l.fn.self
