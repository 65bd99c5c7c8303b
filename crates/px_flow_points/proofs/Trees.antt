-- Induction over trees of statements.
use Rattle.std.proofs.Common.{◌≡◌, ℕ, List, [], ◌∷◌, map, sym, subst}
use Rattle.std.specs.List.{AllByRecursion}
use Rattle.px_normal.specs.declared.word.Operand.{Operand}
use Rattle.px_normal.specs.declared.word.Word.{Word}
use Rattle.px_normal.specs.declared.method.Tree.{Tree, Tree-F, ind-Tree, roll-Tree, map-Tree}
use Rattle.px_normal.specs.declared.method.Tree.TheVariants.{Do, If, Loop, rolls-Do, rolls-If, rolls-Loop}
use Rattle.px_normal.specs.declared.method.Tree.TheOpen.{Tree-F as t}

module _ (P : Tree → Type 0) where
  seconds : (ys : List ((a : Tree) × P a)) → AllByRecursion P (map (λ e. e.0) ys)
  seconds [] = tt
  seconds (y ∷ ys) = (y.1, seconds ys)

  -- what holds of each kind of tree where it holds of its parts holds of all trees
  pub record TreeCases : Type 0 where
    pub on_do : (node : ℕ) (word : Word) → P (Do node word)
    pub on_if : (node : ℕ) (a : Operand) (ys ns : List Tree) → AllByRecursion P ys → AllByRecursion P ns → P (If node a ys ns)
    pub on_loop : (before : List Tree) (node : ℕ) (a : Operand) (body : List Tree) → AllByRecursion P before → AllByRecursion P body → P (Loop before node a body)

  by_case : TreeCases → (x : Tree-F Tree) (y : Tree-F ((a : Tree) × P a)) → map-Tree ((a : Tree) × P a) Tree (λ e. e.0) y ≡ x → P (roll-Tree x)
  by_case c x (t.Do node word) e = subst (λ (z : Tree-F Tree). P (roll-Tree z)) e (subst P (sym (rolls-Do node word)) (c.on_do node word))
  by_case c x (t.If node a ys ns) e = subst (λ (z : Tree-F Tree). P (roll-Tree z)) e (subst P (sym (rolls-If node a (map (λ e. e.0) ys) (map (λ e. e.0) ns))) (c.on_if node a (map (λ e. e.0) ys) (map (λ e. e.0) ns) (seconds ys) (seconds ns)))
  by_case c x (t.Loop before node a body) e = subst (λ (z : Tree-F Tree). P (roll-Tree z)) e (subst P (sym (rolls-Loop (map (λ e. e.0) before) node a (map (λ e. e.0) body))) (c.on_loop (map (λ e. e.0) before) node a (map (λ e. e.0) body) (seconds before) (seconds body)))

  pub each_tree : TreeCases → (x : Tree) → P x
  each_tree c x = ind-Tree P (by_case c) x
