-- What each kind of tree touches.
use Rattle.std.proofs.Common.{◌≡◌, ℕ, List, ◌++◌, Result, Ok, Err, OnOk, append_assoc, sym, ap, ◌∙◌}
use Rattle.px_normal.specs.declared.word.Operand.{Operand}
use Rattle.px_normal.specs.declared.word.Word.{Word}
use Rattle.px_normal.specs.declared.method.Tree.{Tree, Tree-F, fold-roll-Tree, roll-Tree, map-Tree}
use Rattle.px_normal.specs.declared.method.Tree.TheVariants.{Do, If, Loop, rolls-Do, rolls-If, rolls-Loop}
use Rattle.px_normal.specs.declared.method.Tree.TheOpen.{Tree-F as t}
use Rattle.px_flow_points.specs.declared.pairs.Touch.{Touch}
use Rattle.px_flow_points.specs.declared.touched.Access.{Access}
use Rattle.px_flow_points.specs.Exact.{PointsOf}
use Rattle.px_flow_points.specs.ByNode.{word_touches, touches_step, tree_touches, trees_touches}

module _ (P : PointsOf) (access : Access) (m : ℕ) where
  at_tree : (x : Tree-F Tree) → tree_touches P access m (roll-Tree x) ≡ touches_step P access m (map-Tree Tree (List Touch) (tree_touches P access m) x)
  unfolding tree_touches
  at_tree x = fold-roll-Tree (List Touch) (touches_step P access m) x

  pub of_do : (node : ℕ) (x : Word) → tree_touches P access m (Do node x) ≡ word_touches P access m node x
  of_do node x = ap (tree_touches P access m) (sym (rolls-Do node x)) ∙ at_tree (t.Do node x)

  pub of_if : (node : ℕ) (a : Operand) (ys ns : List Tree) → tree_touches P access m (If node a ys ns) ≡ trees_touches P access m ys ++ trees_touches P access m ns
  of_if node a ys ns = ap (tree_touches P access m) (sym (rolls-If node a ys ns)) ∙ at_tree (t.If node a ys ns)

  pub of_loop : (before : List Tree) (node : ℕ) (a : Operand) (body : List Tree) → tree_touches P access m (Loop before node a body) ≡ trees_touches P access m before ++ trees_touches P access m body
  of_loop before node a body = ap (tree_touches P access m) (sym (rolls-Loop before node a body)) ∙ at_tree (t.Loop before node a body)

  -- ---- for the code

  pub is_do : (x : Tree) (node : ℕ) (word : Word) → x ≡ Do node word → tree_touches P access m x ≡ word_touches P access m node word
  is_do x node word e = ap (tree_touches P access m) e ∙ of_do node word

  pub is_if : (x : Tree) (node : ℕ) (a : Operand) (ys ns ys' ns' : List Tree) → x ≡ If node a ys ns → ys' ≡ ys → ns' ≡ ns → tree_touches P access m x ≡ trees_touches P access m ys' ++ trees_touches P access m ns'
  is_if x node a ys ns ys' ns' e y n = ap (tree_touches P access m) e ∙ of_if node a ys ns ∙ ap (λ (z : List Tree). trees_touches P access m z ++ trees_touches P access m ns) (sym y) ∙ ap (λ (z : List Tree). trees_touches P access m ys' ++ trees_touches P access m z) (sym n)

  pub is_loop : (x : Tree) (before : List Tree) (node : ℕ) (a : Operand) (body before' body' : List Tree) → x ≡ Loop before node a body → before' ≡ before → body' ≡ body → tree_touches P access m x ≡ trees_touches P access m before' ++ trees_touches P access m body'
  is_loop x before node a body before' body' e y n = ap (tree_touches P access m) e ∙ of_loop before node a body ∙ ap (λ (z : List Tree). trees_touches P access m z ++ trees_touches P access m body) (sym y) ∙ ap (λ (z : List Tree). trees_touches P access m before' ++ trees_touches P access m z) (sym n)

pub two_parts : {X E : Type 0} (r : Result X E) (old mid new y n all : List Touch) → mid ≡ old ++ y → all ≡ y ++ n → OnOk r (new ≡ mid ++ n) → OnOk r (new ≡ old ++ all)
two_parts (Ok x) old mid new y n all e f h = h ∙ ap (λ (xs : List Touch). xs ++ n) e ∙ append_assoc old y n ∙ ap (λ (xs : List Touch). old ++ xs) (sym f)
two_parts (Err x) old mid new y n all e f h = tt
