-- The constraints of each kind of tree.
use Rattle.std.proofs.Common.{◌≡◌, ℕ, List, ◌++◌, Result, Ok, Err, OnOk, append_assoc, sym, ap, ◌∙◌}
use Rattle.px_constraints.specs.declared.system.Constraint.{Constraint}
use Rattle.px_normal.specs.declared.word.Operand.{Operand}
use Rattle.px_normal.specs.declared.word.Word.{Word}
use Rattle.px_normal.specs.declared.method.Tree.{Tree, Tree-F, fold-roll-Tree, roll-Tree, map-Tree}
use Rattle.px_normal.specs.declared.method.Tree.TheVariants.{Do, If, Loop, rolls-Do, rolls-If, rolls-Loop}
use Rattle.px_normal.specs.declared.method.Tree.TheOpen.{Tree-F as t}
use Rattle.px_flow_points.specs.Constraints.{word_constraints, tree_step, tree_constraints, trees_constraints}

module _ (bases : List ℕ) (m : ℕ) where
  at_tree : (x : Tree-F Tree) → tree_constraints bases m (roll-Tree x) ≡ tree_step bases m (map-Tree Tree (List Constraint) (tree_constraints bases m) x)
  unfolding tree_constraints
  at_tree x = fold-roll-Tree (List Constraint) (tree_step bases m) x

  pub of_do : (node : ℕ) (x : Word) → tree_constraints bases m (Do node x) ≡ word_constraints bases m x
  of_do node x = ap (tree_constraints bases m) (sym (rolls-Do node x)) ∙ at_tree (t.Do node x)

  pub of_if : (node : ℕ) (a : Operand) (ys ns : List Tree) → tree_constraints bases m (If node a ys ns) ≡ trees_constraints bases m ys ++ trees_constraints bases m ns
  of_if node a ys ns = ap (tree_constraints bases m) (sym (rolls-If node a ys ns)) ∙ at_tree (t.If node a ys ns)

  pub of_loop : (before : List Tree) (node : ℕ) (a : Operand) (body : List Tree) → tree_constraints bases m (Loop before node a body) ≡ trees_constraints bases m before ++ trees_constraints bases m body
  of_loop before node a body = ap (tree_constraints bases m) (sym (rolls-Loop before node a body)) ∙ at_tree (t.Loop before node a body)

  -- ---- for the code

  pub is_do : (x : Tree) (node : ℕ) (word : Word) → x ≡ Do node word → tree_constraints bases m x ≡ word_constraints bases m word
  is_do x node word e = ap (tree_constraints bases m) e ∙ of_do node word

  pub is_if : (x : Tree) (node : ℕ) (a : Operand) (ys ns ys' ns' : List Tree) → x ≡ If node a ys ns → ys' ≡ ys → ns' ≡ ns → tree_constraints bases m x ≡ trees_constraints bases m ys' ++ trees_constraints bases m ns'
  is_if x node a ys ns ys' ns' e y n = ap (tree_constraints bases m) e ∙ of_if node a ys ns ∙ ap (λ (z : List Tree). trees_constraints bases m z ++ trees_constraints bases m ns) (sym y) ∙ ap (λ (z : List Tree). trees_constraints bases m ys' ++ trees_constraints bases m z) (sym n)

  pub is_loop : (x : Tree) (before : List Tree) (node : ℕ) (a : Operand) (body before' body' : List Tree) → x ≡ Loop before node a body → before' ≡ before → body' ≡ body → tree_constraints bases m x ≡ trees_constraints bases m before' ++ trees_constraints bases m body'
  is_loop x before node a body before' body' e y n = ap (tree_constraints bases m) e ∙ of_loop before node a body ∙ ap (λ (z : List Tree). trees_constraints bases m z ++ trees_constraints bases m body) (sym y) ∙ ap (λ (z : List Tree). trees_constraints bases m before' ++ trees_constraints bases m z) (sym n)

pub two_parts : {X E : Type 0} (r : Result X E) (old mid new y n all : List Constraint) → mid ≡ old ++ y → all ≡ y ++ n → OnOk r (new ≡ mid ++ n) → OnOk r (new ≡ old ++ all)
two_parts (Ok x) old mid new y n all e f h = h ∙ ap (λ (xs : List Constraint). xs ++ n) e ∙ append_assoc old y n ∙ ap (λ (xs : List Constraint). old ++ xs) (sym f)
two_parts (Err x) old mid new y n all e f h = tt
