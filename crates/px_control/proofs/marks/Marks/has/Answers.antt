use Rattle.std.proofs.Common.{List, ap, ◌∙◌}
use Rattle.px_effects.specs.Act.{Place as Cell}
use Rattle.px_blocks.specs.Machine.{marked}
use Rattle.px_control.proofs.Sets.{marked_is}
use Rattle.px_control.proofs.marks.Marks.has.Goals as goal

pub returns : goal.returns
returns c = c.contains.ensures ∙ marked_is c.args.mark c.self.inside.set.keys ∙ ap (λ (cs : List Cell). marked cs c.args.mark.object c.args.mark.index) c.self.view_is
