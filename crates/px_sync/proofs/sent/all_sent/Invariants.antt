use Rattle.std.proofs.Common.{◌≡◌, ◌++◌, drop}
use Rattle.px_sync.specs.Found.{placing, methods_sent}
use Rattle.px_sync.proofs.sent.all_sent.Given as goal

abbrev pub invariant-loop-method : goal.invariant-loop-method
invariant-loop-method l = l.list.items ++ methods_sent (placing l.code l.sides l.kept l.points) (drop l.method-index l.code.methods) ≡ methods_sent (placing l.code l.sides l.kept l.points) l.code.methods
