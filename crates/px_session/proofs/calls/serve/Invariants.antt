use Rattle.std.proofs.Common.{map, drop}
use Rattle.px_session.specs.Wanted.{wanted}
use Rattle.px_session.proofs.Loops.{Goes}
use Rattle.px_session.proofs.calls.serve.Given as goal

abbrev pub invariant-loop-call : goal.invariant-loop-call
invariant-loop-call l = Goes l.fn.plans.value.items (map wanted l.fn.calls) (map wanted (drop l.call-index l.calls)) l.dones.items l.pair
