use Rattle.std.proofs.Common.{◌≡◌, [], ◌∷◌, ◌++◌, ap, arith}
use Rattle.std.proofs.lemmas.Grind.{common_steps}
use Rattle.px_graph.specs.Loads.{total}
use Rattle.px_partition.proofs.Sums.{total_more}
use Rattle.px_partition.proofs.loads.loads.Goals as goal

pub loop-node-preserved : goal.loop-node-preserved
loop-node-preserved c =
    let a = total_more c.loop-node.loads c.load_of.result in
    let b : total c.push.new.self ≡ total (c.loop-node.loads ++ c.load_of.result ∷ []) = ap total c.in_ok-push.ensures.ok in
    let d = c.load_of.ensures.few in
    let e = c.loop-node.invariant.sum in
    record { same = grind (arith, common_steps); sum = omega (arith, a, b, d, e) }
