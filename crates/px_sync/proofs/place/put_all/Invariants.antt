use Rattle.std.proofs.Common.{◌≡◌, drop}
use Rattle.px_sync.specs.Found.{with_all}
use Rattle.px_sync.proofs.place.put_all.Given as goal

abbrev pub invariant-loop-sent : goal.invariant-loop-sent
invariant-loop-sent l = with_all (drop l.sent-index l.list) l.sends ≡ with_all l.list l.fn.sends
