use Rattle.std.proofs.Common.{ap, ◌∙◌, List}
use Rattle.px_locks.specs.declared.want.Grant.{Grant}
use Rattle.px_locks.specs.Locks.{oldest_at}
use Rattle.px_locks.proofs.In.{at_beside}
use Rattle.px_locks.proofs.book.oldest_of.Goals as goal

pub returns : goal.returns
returns c = c.oldest_in.ensures ∙ ap (λ (gs : List Grant). oldest_at c.args.session c.args.want c.args.before gs) c.at.ensures ∙ at_beside c.args.session c.args.want c.args.before c.args.grants.now
