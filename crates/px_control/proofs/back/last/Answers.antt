use Rattle.std.proofs.Common.{ap, ◌∙◌, slice_get}
use Rattle.px_control.proofs.Backs.{last_is}
use Rattle.px_control.proofs.back.last.Goals as goal

pub returns : goal.returns
returns c = c.at.ensures ∙ ap (slice_get c.args.statements.now) c.saturating_sub.ensures ∙ last_is c.args.statements.now
