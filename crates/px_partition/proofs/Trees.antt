-- The words of each kind of tree.
use Rattle.std.proofs.Common.{◌≡◌, ℕ, List, sym, ap, ◌∙◌}
use Rattle.px_normal.specs.declared.word.Operand.{Operand}
use Rattle.px_normal.specs.declared.word.Word.{Word}
use Rattle.px_normal.specs.declared.method.Tree.{Tree, Tree-F, fold-roll-Tree, roll-Tree, map-Tree}
use Rattle.px_normal.specs.declared.method.Tree.TheVariants.{Do, If, Loop, rolls-Do, rolls-If, rolls-Loop}
use Rattle.px_normal.specs.declared.method.Tree.TheOpen.{Tree-F as t}
use Rattle.px_partition.specs.declared.words.NodeWord.TheVariants as word
use Rattle.px_partition.specs.Words.{Words, word_of, with_word, with_step, with_tree, with_trees}

at_tree : (x : Tree-F Tree) → with_tree (roll-Tree x) ≡ with_step (map-Tree Tree (Words → Words) with_tree x)
unfolding with_tree
at_tree x = fold-roll-Tree (Words → Words) with_step x

pub of_do : (node : ℕ) (x : Word) (words : Words) → with_tree (Do node x) words ≡ with_word node (word_of x) words
of_do node x words = ap (λ (f : Words → Words). f words) (ap with_tree (sym (rolls-Do node x)) ∙ at_tree (t.Do node x))

pub of_if : (node : ℕ) (a : Operand) (ys ns : List Tree) (words : Words) → with_tree (If node a ys ns) words ≡ with_trees ns (with_trees ys (with_word node word.If words))
of_if node a ys ns words = ap (λ (f : Words → Words). f words) (ap with_tree (sym (rolls-If node a ys ns)) ∙ at_tree (t.If node a ys ns))

pub of_loop : (before : List Tree) (node : ℕ) (a : Operand) (body : List Tree) (words : Words) → with_tree (Loop before node a body) words ≡ with_trees body (with_trees before (with_word node word.Test words))
of_loop before node a body words = ap (λ (f : Words → Words). f words) (ap with_tree (sym (rolls-Loop before node a body)) ∙ at_tree (t.Loop before node a body))

pub two_lists : (one two ys ns : List Tree) (start mid middle last : Words) → one ≡ ys → two ≡ ns → mid ≡ start → middle ≡ with_trees one mid → last ≡ with_trees two middle → last ≡ with_trees ns (with_trees ys start)
two_lists one two ys ns start mid middle last a b d e f =
    f ∙ ap (λ (z : List Tree). with_trees z middle) b ∙ ap (λ (z : Words). with_trees ns z) (e ∙ ap (λ (z : List Tree). with_trees z mid) a ∙ ap (λ (z : Words). with_trees ys z) d)
