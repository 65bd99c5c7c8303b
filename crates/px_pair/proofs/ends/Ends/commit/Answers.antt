use Rattle.px_pair.proofs.Pairs.{commit_welcome}
use Rattle.px_pair.proofs.ends.Ends.commit.Goals as goal

pub tell-requires-clause-welcome : goal.tell-requires-clause-welcome
tell-requires-clause-welcome c = commit_welcome c.args.self.now c.requires
