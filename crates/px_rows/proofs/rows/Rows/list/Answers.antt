use Rattle.std.proofs.Common.{ap, ◌∙◌, map, ◌++◌}
use Rattle.px_rows.specs.Entries.{rows_in}
use Rattle.px_rows.proofs.Seen.{rows_seen}
use Rattle.px_rows.proofs.rows.Rows.list.Goals as goal

pub returns : goal.returns
returns c = c.in_ok-list.ensures ∙ ap (λ items. map (λ r. r.now) items ++ rows_in c.self.inside.tree) c.new-rows.ensures.items ∙ rows_seen c.self.inside.tree c.args.self.now c.self.invariant c.self.view_is
