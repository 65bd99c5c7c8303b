use Rattle.std.proofs.Common.{sym, ◌∙◌}
use Rattle.px_compile.proofs.Cuts.{ends_at_last}
use Rattle.px_compile.proofs.cut.ends_in_return.Goals as goal

pub returns-in-Some : goal.returns-in-Some
returns-in-Some c = c.is_return.ensures ∙ sym (ends_at_last c.args.statements.now c.in-Some.last.now c.in-Some.ensures.value)
