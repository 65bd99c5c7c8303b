use Rattle.std.proofs.Common.{◌≡◌, drop}
use Rattle.px_constraints.specs.Search.{stored}
use Rattle.px_constraints.proofs.search.Search.store.Given as goal

abbrev pub invariant-loop-look : goal.invariant-loop-look
invariant-loop-look l = stored l.system.cells (drop l.look-index l.looks) l.site l.self ≡ stored l.system.cells l.looks l.site l.fn.self
