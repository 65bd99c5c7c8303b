use Rattle.std.proofs.Common.{◌≡◌, ◌++◌, drop}
use Rattle.px_sync.specs.Found.{placing, trees_sent}
use Rattle.px_sync.proofs.sent.+sending.Given as goal

abbrev pub invariant-trees-loop-item : goal.invariant-trees-loop-item
invariant-trees-loop-item l = l.into.items ++ trees_sent (placing l.code l.sides l.kept l.points) (drop l.item-index l.list) ≡ l.fn.into.items ++ trees_sent (placing l.code l.sides l.kept l.points) l.list
