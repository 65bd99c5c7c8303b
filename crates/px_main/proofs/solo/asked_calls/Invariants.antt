use Rattle.std.proofs.Common.{◌≡◌, ◌++◌, map, drop}
use Rattle.px_session.specs.Wanted.{wanted}
use Rattle.px_main.specs.Solo.{asked}
use Rattle.px_main.proofs.solo.asked_calls.Given as goal

abbrev pub invariant-loop-call : goal.invariant-loop-call
invariant-loop-call l = map (asked l.fn.entries) l.fn.calls ≡ map wanted l.all.items ++ map (asked l.fn.entries) (drop l.call-index l.calls)
