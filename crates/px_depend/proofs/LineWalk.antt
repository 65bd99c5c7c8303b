-- The lines of each kind of tree.
use Rattle.std.proofs.Common.{◌≡◌, ℕ, List, [], ◌∷◌, ◌++◌, Result, Ok, Err, OnOk, append_assoc, sym, ap, ◌∙◌}
use Rattle.px_normal.specs.declared.word.Operand.{Operand}
use Rattle.px_normal.specs.declared.word.Word.{Word}
use Rattle.px_normal.specs.declared.method.Tree.{Tree, Tree-F, fold-roll-Tree, roll-Tree, map-Tree}
use Rattle.px_normal.specs.declared.method.Tree.TheVariants.{Do, If, Loop, rolls-Do, rolls-If, rolls-Loop}
use Rattle.px_normal.specs.declared.method.Tree.TheOpen.{Tree-F as t}
use Rattle.px_depend.specs.declared.lines.Does.{Does}
use Rattle.px_depend.specs.declared.lines.Does.TheVariants as does
use Rattle.px_depend.specs.declared.lines.Line.{Line}
use Rattle.px_depend.specs.Lines.{Held, does_of, line, lines_step, tree_lines, trees_lines}

module _ (m : ℕ) where
  at_tree : (x : Tree-F Tree) → tree_lines m (roll-Tree x) ≡ lines_step m (map-Tree Tree Held (tree_lines m) x)
  unfolding tree_lines
  at_tree x = fold-roll-Tree Held (lines_step m) x

  of_do : (by node : ℕ) (x : Word) → tree_lines m (Do node x) by ≡ line m by node (does_of x) ∷ []
  of_do by node x = ap (λ (f : Held). f by) (ap (tree_lines m) (sym (rolls-Do node x)) ∙ at_tree (t.Do node x))

  of_if : (by node : ℕ) (a : Operand) (ys ns : List Tree) → tree_lines m (If node a ys ns) by ≡ line m by node does.Other ∷ (trees_lines m ys node ++ trees_lines m ns node)
  of_if by node a ys ns = ap (λ (f : Held). f by) (ap (tree_lines m) (sym (rolls-If node a ys ns)) ∙ at_tree (t.If node a ys ns))

  of_loop : (by : ℕ) (before : List Tree) (node : ℕ) (a : Operand) (body : List Tree) → tree_lines m (Loop before node a body) by ≡ trees_lines m before by ++ line m by node does.Other ∷ trees_lines m body node
  of_loop by before node a body = ap (λ (f : Held). f by) (ap (tree_lines m) (sym (rolls-Loop before node a body)) ∙ at_tree (t.Loop before node a body))

-- ---- for the code

pub is_do : {X E : Type 0} (r : Result X E) (m by : ℕ) (x : Tree) (node : ℕ) (word : Word) (d : Does) (old new : List Line) → x ≡ Do node word → d ≡ does_of word → OnOk r (new ≡ old ++ line m by node d ∷ []) → OnOk r (new ≡ old ++ tree_lines m x by)
is_do (Ok v) m by x node word d old new e f h = h ∙ ap (λ (z : Does). old ++ line m by node z ∷ []) f ∙ ap (λ (zs : List Line). old ++ zs) (sym (ap (λ (z : Tree). tree_lines m z by) e ∙ of_do m by node word))
is_do (Err v) m by x node word d old new e f h = tt

pub is_if : (m by : ℕ) (x : Tree) (node : ℕ) (a : Operand) (ys ns ys' ns' : List Tree) → x ≡ If node a ys ns → ys' ≡ ys → ns' ≡ ns → tree_lines m x by ≡ line m by node does.Other ∷ [] ++ (trees_lines m ys' node ++ trees_lines m ns' node)
is_if m by x node a ys ns ys' ns' e y n = ap (λ (z : Tree). tree_lines m z by) e ∙ of_if m by node a ys ns ∙ ap (λ (z : List Tree). line m by node does.Other ∷ (trees_lines m z node ++ trees_lines m ns node)) (sym y) ∙ ap (λ (z : List Tree). line m by node does.Other ∷ (trees_lines m ys' node ++ trees_lines m z node)) (sym n)

pub is_loop : (m by : ℕ) (x : Tree) (before : List Tree) (node : ℕ) (a : Operand) (body before' body' : List Tree) → x ≡ Loop before node a body → before' ≡ before → body' ≡ body → tree_lines m x by ≡ trees_lines m before' by ++ (line m by node does.Other ∷ [] ++ trees_lines m body' node)
is_loop m by x before node a body before' body' e y n = ap (λ (z : Tree). tree_lines m z by) e ∙ of_loop m by before node a body ∙ ap (λ (z : List Tree). trees_lines m z by ++ line m by node does.Other ∷ trees_lines m body node) (sym y) ∙ ap (λ (z : List Tree). trees_lines m before' by ++ line m by node does.Other ∷ trees_lines m z node) (sym n)

pub three_parts : {X E : Type 0} (r : Result X E) (old one two new x y z all : List Line) → one ≡ old ++ x → two ≡ one ++ y → all ≡ x ++ (y ++ z) → OnOk r (new ≡ two ++ z) → OnOk r (new ≡ old ++ all)
three_parts (Ok v) old one two new x y z all a b f h = h ∙ ap (λ (xs : List Line). xs ++ z) b ∙ append_assoc one y z ∙ ap (λ (xs : List Line). xs ++ (y ++ z)) a ∙ append_assoc old x (y ++ z) ∙ ap (λ (xs : List Line). old ++ xs) (sym f)
three_parts (Err v) old one two new x y z all a b f h = tt
