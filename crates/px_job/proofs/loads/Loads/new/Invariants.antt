use Rattle.std.proofs.Common.{◌≡◌, [], replicate}
use Rattle.px_job.proofs.loads.Loads.new.Given as goal

abbrev pub invariant-loop-session : goal.invariant-loop-session
invariant-loop-session l = l.lists.items ≡ replicate l._session []
