use Rattle.std.proofs.Common.{◌≡◌, [], ◌∷◌, ◌++◌, ap, arith}
use Rattle.std.proofs.lemmas.Grind.{common_steps}
use Rattle.px_graph.specs.Costs.{whole}
use Rattle.px_partition.proofs.Bytes.{small_rest}
use Rattle.px_partition.proofs.Sums.{whole_more}
use Rattle.px_partition.proofs.edges.edges.Goals as goal

pub loop-dependence-preserved : goal.loop-dependence-preserved
loop-dependence-preserved c =
    let a = whole_more c.loop-dependence.edges c.weighed.result in
    let b : whole c.push.new.self ≡ whole (c.loop-dependence.edges ++ c.weighed.result ∷ []) = ap whole c.in_ok-push.ensures.ok in
    let d = c.weighed.ensures.small in
    let e = c.loop-dependence.invariant.sum in
    record { same = grind (arith, common_steps); sum = omega (arith, a, b, d, e); small = small_rest c.args.dependences.now c.loop-dependence.dependence-index (omega (arith, c.loop-dependence-test.true)) c.loop-dependence.invariant.small }
