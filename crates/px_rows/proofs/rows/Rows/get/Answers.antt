use Rattle.std.proofs.Common.{ap, ◌∙◌, w64}
use Rattle.std.proofs.lemmas.Int.{to_z-of_z}
use Rattle.std.specs.FinMap.{find}
use Rattle.std.specs.Ordering.{int_cmp}
use Rattle.px_rows.proofs.Seen.{get_seen}
use Rattle.px_rows.proofs.rows.Rows.get.Goals as goal

pub returns : goal.returns
returns c = c.get.ensures ∙ ap (λ k. find int_cmp k c.self.inside.tree) (to_z-of_z w64 c.args.key c.ranges.key) ∙ get_seen c.self.inside.tree c.args.self.now c.args.key c.self.invariant c.self.view_is
