use Rattle.std.proofs.Common.{ap, ◌∙◌}
use Rattle.px_locks.specs.Locks.{stands_in}
use Rattle.px_locks.proofs.In.{stands_beside}
use Rattle.px_locks.proofs.book.stands.Goals as goal

pub returns : goal.returns
returns c = c.stands_among.ensures ∙ ap (stands_in c.args.grant) c.at.ensures ∙ stands_beside c.args.grant c.args.grants.now
