-- Each kind of tree with its names.
use Rattle.std.proofs.Common.{◌≡◌, ℕ, List, sym, ap, ◌∙◌}
use Rattle.px_normal.specs.declared.word.Operand.{Operand}
use Rattle.px_normal.specs.declared.word.Word.{Word}
use Rattle.px_normal.specs.declared.method.Tree.{Tree, Tree-F, fold-roll-Tree, roll-Tree, map-Tree}
use Rattle.px_normal.specs.declared.method.Tree.TheVariants.{Do, If, Loop, rolls-Do, rolls-If, rolls-Loop}
use Rattle.px_normal.specs.declared.method.Tree.TheOpen.{Tree-F as t}
use Rattle.px_normal.specs.declared.code.Code.{Code}
use Rattle.px_blocks.specs.declared.placed.Placed.{Placed}
use Rattle.px_blocks.specs.Rules.{send_of}
use Rattle.px_pyxil.specs.declared.tree.Tree.{Tree as NamedTree}
use Rattle.px_pyxil.specs.declared.tree.Tree.TheVariants as named
use Rattle.px_named.specs.Named.{named_word, at_side, named_step, named_tree, named_trees}

module _ (code : Code) (placed : Placed) where
  at_tree : (x : Tree-F Tree) → named_tree code placed (roll-Tree x) ≡ named_step code placed (map-Tree Tree NamedTree (named_tree code placed) x)
  unfolding named_tree
  at_tree x = fold-roll-Tree NamedTree (named_step code placed) x

  pub named_do : (y : Tree) (node : ℕ) (word : Word) → y ≡ Do node word → named_tree code placed y ≡ named.Do (at_side placed node) (named_word code word) (send_of placed.sends node)
  named_do y node word h = ap (named_tree code placed) (h ∙ sym (rolls-Do node word)) ∙ at_tree (t.Do node word)

  pub named_if : (y : Tree) (node : ℕ) (a : Operand) (ys ns : List Tree) → y ≡ If node a ys ns → named_tree code placed y ≡ named.If (at_side placed node) a (named_trees code placed ys) (named_trees code placed ns)
  named_if y node a ys ns h = ap (named_tree code placed) (h ∙ sym (rolls-If node a ys ns)) ∙ at_tree (t.If node a ys ns)

  pub named_loop : (y : Tree) (first : List Tree) (node : ℕ) (a : Operand) (body : List Tree) → y ≡ Loop first node a body → named_tree code placed y ≡ named.Loop (named_trees code placed first) (at_side placed node) a (named_trees code placed body)
  named_loop y first node a body h = ap (named_tree code placed) (h ∙ sym (rolls-Loop first node a body)) ∙ at_tree (t.Loop first node a body)
