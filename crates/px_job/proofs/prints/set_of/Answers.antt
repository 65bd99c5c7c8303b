use Rattle.std.proofs.Common.{refl, arith}
use Rattle.px_job.proofs.PrintsMore.{set_more}
use Rattle.px_job.proofs.prints.set_of.Goals as goal

pub loop-number-preserved : goal.loop-number-preserved
loop-number-preserved c = λ n. set_more c.args.numbers.now c.loop-number.number-index _ _ n _ _ _ (omega arith) refl (c.in_ok-insert.ensures.updates.0 n) (c.loop-number.invariant n)
