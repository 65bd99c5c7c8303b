use Rattle.std.proofs.Common.{List, None, drop, subst, sym, arith, add-one}
use Rattle.std.proofs.Math.Seq.{drop-cons}
use Rattle.px_locks.specs.declared.mode.Mode.TheVariants.{IntentShared}
use Rattle.px_locks.specs.declared.want.Want.{Want}
use Rattle.px_locks.specs.Locks.{granted, IsJoined}
use Rattle.px_locks.proofs.In.{joined_more}
use Rattle.px_locks.proofs.book.LockBook.grant.Goals as goal

pub loop-want-preserved : goal.loop-want-preserved
loop-want-preserved c = record {
  spare = let i = c.loop-want.invariant.spare in let e = c.add.ensures.spare in omega arith;
  grants = λ after u. c.loop-want.invariant.grants after (subst (λ (ws : List Want). IsJoined c.loop-want.self.grants (granted c.args.session c.args.stamp ws) after)
      (sym (drop-cons c.args.wants.now c.loop-want.want-index (record { item = record { table = 0; key = None }; mode = IntentShared }) (omega arith)))
      (joined_more _ _ _ _ _ c.add.ensures.grants (subst (λ n. IsJoined c.add.new.self.grants (granted c.args.session c.args.stamp (drop n c.args.wants.now)) after) (add-one c.loop-want.want-index) u)));
}
