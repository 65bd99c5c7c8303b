use Rattle.std.proofs.Common.{List, [], ◌∷◌, map, ap, ◌∙◌}
use Rattle.px_blocks.specs.Machine.{with_marks}
use Rattle.px_control.specs.declared.marks.Mark.{Mark}
use Rattle.px_control.specs.Marks.{cell_of}
use Rattle.px_control.proofs.Sets.{mark_added}
use Rattle.px_control.proofs.marks.Marks.add.Goals as goal

pub returns-clause-ok : goal.returns-clause-ok
returns-clause-ok c = ap (λ (ks : List Mark). map cell_of ks) c.in_ok-insert.ensures.keys ∙ mark_added c.args.mark c.self.inside.set.keys ∙ ap (with_marks (cell_of c.args.mark ∷ [])) c.self.view_is
