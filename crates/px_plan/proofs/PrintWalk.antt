-- The first print at DB of each kind of tree.
use Rattle.std.proofs.Common.{◌≡◌, ℕ, List, Option, sym, ap, ◌∙◌}
use Rattle.px_normal.specs.declared.word.Operand.{Operand}
use Rattle.px_normal.specs.declared.word.Word.{Word}
use Rattle.px_normal.specs.declared.method.Tree.{Tree, Tree-F, fold-roll-Tree, roll-Tree, map-Tree}
use Rattle.px_normal.specs.declared.method.Tree.TheVariants.{Do, If, Loop, rolls-Do, rolls-If, rolls-Loop}
use Rattle.px_normal.specs.declared.method.Tree.TheOpen.{Tree-F as t}
use Rattle.px_blocks.specs.declared.side.Side.{Side}
use Rattle.px_plan.specs.Prints.{print_at, or_else, first_step, first_in, first_among}

module _ (sides : List Side) where
  at_tree : (x : Tree-F Tree) → first_in sides (roll-Tree x) ≡ first_step sides (map-Tree Tree (Option ℕ) (first_in sides) x)
  unfolding first_in
  at_tree x = fold-roll-Tree (Option ℕ) (first_step sides) x

  pub of_do : (node : ℕ) (x : Word) → first_in sides (Do node x) ≡ print_at sides node x
  of_do node x = ap (first_in sides) (sym (rolls-Do node x)) ∙ at_tree (t.Do node x)

  pub of_if : (node : ℕ) (a : Operand) (ys ns : List Tree) → first_in sides (If node a ys ns) ≡ or_else (first_among sides ys) (first_among sides ns)
  of_if node a ys ns = ap (first_in sides) (sym (rolls-If node a ys ns)) ∙ at_tree (t.If node a ys ns)

  pub of_loop : (before : List Tree) (node : ℕ) (a : Operand) (body : List Tree) → first_in sides (Loop before node a body) ≡ or_else (first_among sides before) (first_among sides body)
  of_loop before node a body = ap (first_in sides) (sym (rolls-Loop before node a body)) ∙ at_tree (t.Loop before node a body)

  pub is_do : (x : Tree) (node : ℕ) (word : Word) → x ≡ Do node word → first_in sides x ≡ print_at sides node word
  is_do x node word e = ap (first_in sides) e ∙ of_do node word

  pub is_if : (x : Tree) (node : ℕ) (a : Operand) (ys ns ys' ns' : List Tree) → x ≡ If node a ys ns → ys' ≡ ys → ns' ≡ ns → first_in sides x ≡ or_else (first_among sides ys') (first_among sides ns')
  is_if x node a ys ns ys' ns' e y n = ap (first_in sides) e ∙ of_if node a ys ns ∙ ap (λ (z : List Tree). or_else (first_among sides z) (first_among sides ns)) (sym y) ∙ ap (λ (z : List Tree). or_else (first_among sides ys') (first_among sides z)) (sym n)

  pub is_loop : (x : Tree) (before : List Tree) (node : ℕ) (a : Operand) (body before' body' : List Tree) → x ≡ Loop before node a body → before' ≡ before → body' ≡ body → first_in sides x ≡ or_else (first_among sides before') (first_among sides body')
  is_loop x before node a body before' body' e y n = ap (first_in sides) e ∙ of_loop before node a body ∙ ap (λ (z : List Tree). or_else (first_among sides z) (first_among sides body)) (sym y) ∙ ap (λ (z : List Tree). or_else (first_among sides before') (first_among sides z)) (sym n)
