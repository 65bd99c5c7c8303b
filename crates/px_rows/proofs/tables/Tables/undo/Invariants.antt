use Rattle.std.proofs.Common.{◌≡◌, vec_len}
use Rattle.px_rows.specs.Tables.{undone}
use Rattle.px_rows.proofs.tables.Tables.undo.Given as goal

abbrev pub invariant-loop-past : goal.invariant-loop-past
invariant-loop-past l = undone l.undo-inside.pasts.items l.self ≡ undone l.fn.undo l.fn.self

abbrev pub decreases-loop-past : goal.decreases-loop-past
decreases-loop-past l = vec_len l.undo-inside.pasts
