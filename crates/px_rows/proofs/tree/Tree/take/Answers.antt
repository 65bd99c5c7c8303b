use Rattle.std.proofs.Common.{◌≡◌, ◌∙◌, w64, to_z, of_z, ◌++◌}
use Rattle.std.proofs.lemmas.Int.{to_z-of_z}
use Rattle.std.specs.FinMap.{find}
use Rattle.std.specs.Ordering.{int_cmp}
use Rattle.px_rows.specs.Entries.{below, above}
use Rattle.px_rows.proofs.AtNode.{without_parts}
use Rattle.px_rows.proofs.tree.Tree.take.Goals as goal

pub returns-clause-old : goal.returns-clause-old
returns-clause-old c =
    let key : to_z w64 (of_z w64 c.args.key) ≡ c.args.key = to_z-of_z w64 c.args.key c.ranges.key in
    c.split-parts.ensures.found ∙ (λ i. find int_cmp (key i) (c.replace.ensures.value i))

pub returns-clause-new : goal.returns-clause-new
returns-clause-new c =
    let key : to_z w64 (of_z w64 c.args.key) ≡ c.args.key = to_z-of_z w64 c.args.key c.ranges.key in
    c.join.ensures
    ∙ (λ i. (c.split-parts.ensures.below ∙ (λ j. below (key j) (c.replace.ensures.value j))) i ++ (c.split-parts.ensures.above ∙ (λ j. above (key j) (c.replace.ensures.value j))) i)
    ∙ without_parts c.args.key c.args.self.now c.requires
