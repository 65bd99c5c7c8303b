use Rattle.std.proofs.Common.{sym}
use Rattle.px_half.proofs.Undoes.{undone-write}
use Rattle.px_half.proofs.undo.write_reserved.Goals as goal

pub returns-in-Some-clause-undone : goal.returns-in-Some-clause-undone
returns-in-Some-clause-undone c = undone-write _ _ _ _ _ _ _ _ (sym c.in-Some.ensures.old) c.in-Some.ensures.written c.push_reserved.ensures.items
