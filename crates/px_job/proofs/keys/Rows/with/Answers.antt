use Rattle.px_job.proofs.KeysMore.{keys_more}
use Rattle.px_job.proofs.keys.Rows.with.Goals as goal

pub invariant_of-result : goal.invariant_of-result
invariant_of-result c = keys_more c.self.inside.keys.numbers c.add.new.self.numbers c.self.inside.keys.texts c.add.new.self.texts c.self.inside.list c.push.new.self c.args.row c.as_slice.result.now c.as_slice.ensures c.in_ok-push.ensures.ok c.self.invariant c.in_ok-add.ensures
