use Rattle.std.proofs.Common.{◌≡◌, [], drop, arith}
use Rattle.std.proofs.Math.ListN.{drop_of_length-le}
use Rattle.px_parts.proofs.Behind.{with_part, all_shown}
use Rattle.px_parts.proofs.texts.split_text.Goals as goal

pub loop-part-preserved : goal.loop-part-preserved
loop-part-preserved c = let e = c.in_ok-push_placed.ensures in with_part c.args.code.now c.args.parts.now c.loop-part.part-index _ _ _ _ e.0 (omega arith) c.part-item.is c.loop-part.invariant e.1 e.2

pub returns : goal.returns
returns c = record {
  own = c.requires.own;
  texts = all_shown c.args.code.now c.args.parts.now (drop c.loop-part.part-index c.args.parts.now) _ (drop_of_length-le c.args.parts.now (omega arith)) c.loop-part.invariant;
}
