use Rattle.std.proofs.Common.{◌≡◌, None, replicate}
use Rattle.px_sync.proofs.place.no_sends.Given as goal

abbrev pub invariant-loop : goal.invariant-loop
invariant-loop l = l.sends ≡ replicate l.counter None
