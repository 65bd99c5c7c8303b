use Rattle.std.proofs.Common.{◌≡◌, ◌∙◌, w64, to_z, of_z, ◌++◌, ◌∷◌, []}
use Rattle.std.proofs.lemmas.Int.{to_z-of_z}
use Rattle.px_rows.specs.Entries.{below, above}
use Rattle.px_rows.proofs.AtNode.{put_parts}
use Rattle.px_rows.proofs.tree.Tree.put.Goals as goal

pub returns-clause-new : goal.returns-clause-new
returns-clause-new c =
    let key : to_z w64 (of_z w64 c.args.key) ≡ c.args.key = to_z-of_z w64 c.args.key c.ranges.key in
    c.join-2.ensures
    ∙ (λ i. (c.join.ensures ∙ (λ j. (c.split-parts.ensures.below ∙ (λ l. below (key l) (c.replace.ensures.value l))) j ++ (c.alone.ensures ∙ (λ l. (key l, c.args.node.value.row) ∷ [])) j)) i ++ (c.split-parts.ensures.above ∙ (λ j. above (key j) (c.replace.ensures.value j))) i)
    ∙ put_parts c.args.key c.args.node.value.row c.args.self.now c.requires
