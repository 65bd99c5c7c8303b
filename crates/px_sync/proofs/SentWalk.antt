-- The sends that each kind of tree asks for.
use Rattle.std.proofs.Common.{◌≡◌, ℕ, List, ◌++◌, Result, Ok, Err, OnOk, append_assoc, sym, ap, ◌∙◌}
use Rattle.px_normal.specs.declared.word.Operand.{Operand}
use Rattle.px_normal.specs.declared.word.Word.{Word}
use Rattle.px_normal.specs.declared.method.Tree.{Tree, Tree-F, fold-roll-Tree, roll-Tree, map-Tree}
use Rattle.px_normal.specs.declared.method.Tree.TheVariants.{Do, If, Loop, rolls-Do, rolls-If, rolls-Loop}
use Rattle.px_normal.specs.declared.method.Tree.TheOpen.{Tree-F as t}
use Rattle.px_sync.specs.declared.sent.Sent.{Sent}
use Rattle.px_sync.specs.Found.{Placing, word_sent, sent_step, tree_sent, trees_sent}

module _ (P : Placing) where
  at_tree : (x : Tree-F Tree) → tree_sent P (roll-Tree x) ≡ sent_step P (map-Tree Tree (List Sent) (tree_sent P) x)
  unfolding tree_sent
  at_tree x = fold-roll-Tree (List Sent) (sent_step P) x

  pub of_do : (node : ℕ) (x : Word) → tree_sent P (Do node x) ≡ word_sent P node x
  of_do node x = ap (tree_sent P) (sym (rolls-Do node x)) ∙ at_tree (t.Do node x)

  pub of_if : (node : ℕ) (a : Operand) (ys ns : List Tree) → tree_sent P (If node a ys ns) ≡ trees_sent P ys ++ trees_sent P ns
  of_if node a ys ns = ap (tree_sent P) (sym (rolls-If node a ys ns)) ∙ at_tree (t.If node a ys ns)

  pub of_loop : (before : List Tree) (node : ℕ) (a : Operand) (body : List Tree) → tree_sent P (Loop before node a body) ≡ trees_sent P before ++ trees_sent P body
  of_loop before node a body = ap (tree_sent P) (sym (rolls-Loop before node a body)) ∙ at_tree (t.Loop before node a body)

  pub is_do : (x : Tree) (node : ℕ) (word : Word) → x ≡ Do node word → tree_sent P x ≡ word_sent P node word
  is_do x node word e = ap (tree_sent P) e ∙ of_do node word

  pub is_if : (x : Tree) (node : ℕ) (a : Operand) (ys ns ys' ns' : List Tree) → x ≡ If node a ys ns → ys' ≡ ys → ns' ≡ ns → tree_sent P x ≡ trees_sent P ys' ++ trees_sent P ns'
  is_if x node a ys ns ys' ns' e y n = ap (tree_sent P) e ∙ of_if node a ys ns ∙ ap (λ (z : List Tree). trees_sent P z ++ trees_sent P ns) (sym y) ∙ ap (λ (z : List Tree). trees_sent P ys' ++ trees_sent P z) (sym n)

  pub is_loop : (x : Tree) (before : List Tree) (node : ℕ) (a : Operand) (body before' body' : List Tree) → x ≡ Loop before node a body → before' ≡ before → body' ≡ body → tree_sent P x ≡ trees_sent P before' ++ trees_sent P body'
  is_loop x before node a body before' body' e y n = ap (tree_sent P) e ∙ of_loop before node a body ∙ ap (λ (z : List Tree). trees_sent P z ++ trees_sent P body) (sym y) ∙ ap (λ (z : List Tree). trees_sent P before' ++ trees_sent P z) (sym n)

pub two_parts : {X E : Type 0} (r : Result X E) (old mid new y n all : List Sent) → mid ≡ old ++ y → all ≡ y ++ n → OnOk r (new ≡ mid ++ n) → OnOk r (new ≡ old ++ all)
two_parts (Ok x) old mid new y n all e f h = h ∙ ap (λ (xs : List Sent). xs ++ n) e ∙ append_assoc old y n ∙ ap (λ (xs : List Sent). old ++ xs) (sym f)
two_parts (Err x) old mid new y n all e f h = tt
