use Rattle.std.proofs.Common.{refl, arith}
use Rattle.px_flow_points.specs.declared.part.Part.TheVariants.{Field}
use Rattle.px_flow_points.specs.declared.part.Pair.{Pair}
use Rattle.px_sync.proofs.Sets.{set_more}
use Rattle.px_sync.proofs.pairs.set_of.Goals as goal

abbrev none : Pair
none = record { site = 0; part = Field 0 }

pub loop-pair-preserved : goal.loop-pair-preserved
loop-pair-preserved c = λ p. set_more c.args.pairs.now c.loop-pair.pair-index _ none p c.loop-pair.set c.insert.new.self _ (omega arith) refl (c.in_ok-insert.ensures.updates.0 p) (c.loop-pair.invariant p)
