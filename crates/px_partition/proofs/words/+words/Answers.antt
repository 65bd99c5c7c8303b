use Rattle.std.proofs.Common.{sym, ap, ◌∙◌}
use Rattle.px_normal.specs.declared.method.Tree.{Tree}
use Rattle.px_partition.specs.Words.{with_word, with_tree}
use Rattle.px_partition.proofs.Trees.{of_do, of_if, of_loop, two_lists}
use Rattle.px_partition.proofs.words.+words.Goals as goal

pub set_tree-returns-in-Do : goal.set_tree-returns-in-Do
set_tree-returns-in-Do t c =
    c.set_word.ensures
    ∙ ap (λ z. with_word c.in-Do.node z c.args.words.now) c.word_of.ensures
    ∙ sym (ap (λ (z : Tree). with_tree z c.args.words.now) c.in-Do.is ∙ of_do c.in-Do.node c.in-Do.word c.args.words.now)

pub set_tree-returns-in-If : goal.set_tree-returns-in-If
set_tree-returns-in-If t c =
    two_lists c.as_slice.result.now c.as_slice-in-If.result.now c.in-If.yes c.in-If.no _ _ c.set_trees.new.words _ c.as_slice.ensures c.as_slice-in-If.ensures c.set_word-in-If.ensures c.set_trees.ensures c.set_trees-in-If.ensures
    ∙ sym (ap (λ (z : Tree). with_tree z c.args.words.now) c.in-If.is ∙ of_if c.in-If.node c.in-If.test c.in-If.yes c.in-If.no c.args.words.now)

pub set_tree-returns-in-Loop : goal.set_tree-returns-in-Loop
set_tree-returns-in-Loop t c =
    two_lists c.as_slice-in-Loop.result.now c.as_slice-in-Loop-2.result.now c.in-Loop.first c.in-Loop.body _ _ c.set_trees-in-Loop.new.words _ c.as_slice-in-Loop.ensures c.as_slice-in-Loop-2.ensures c.set_word-in-Loop.ensures c.set_trees-in-Loop.ensures c.set_trees-in-Loop-2.ensures
    ∙ sym (ap (λ (z : Tree). with_tree z c.args.words.now) c.in-Loop.is ∙ of_loop c.in-Loop.first c.in-Loop.node c.in-Loop.test c.in-Loop.body c.args.words.now)
