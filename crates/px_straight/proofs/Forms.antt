-- What is later in each kind of tree, and what each is as two ends take it.
use Rattle.std.proofs.Common.{◌≡◌, ℕ, Bool, true, false, List, Option, Some, None, unwrap_or, if◌then◌else◌, sym, ap, ◌∙◌}
use Rattle.px_normal.specs.declared.word.Operand.{Operand}
use Rattle.px_normal.specs.declared.word.Word.{Word}
use Rattle.px_normal.specs.declared.method.Tree.{Tree, Tree-F, fold-roll-Tree, roll-Tree, map-Tree}
use Rattle.px_normal.specs.declared.method.Tree.TheVariants.{Do, If, Loop, rolls-Do, rolls-If, rolls-Loop}
use Rattle.px_normal.specs.declared.method.Tree.TheOpen.{Tree-F as t}
use Rattle.px_normal.specs.declared.code.Code.{Code}
use Rattle.px_code.specs.declared.method.Tree.{Tree as SimpleTree}
use Rattle.px_code.specs.declared.method.Tree.TheVariants as simple
use Rattle.px_code.specs.declared.word.Word.TheVariants as word
use Rattle.px_straight.specs.Taken.{is_taken, line_of, later_step, later_in, later_among}
use Rattle.px_straight.specs.Simple.{simple_word, simple_step, simple_tree}

module _ (code : Code) where
  at_later : (x : Tree-F Tree) → later_in code (roll-Tree x) ≡ later_step code (map-Tree Tree (Option ℕ) (later_in code) x)
  unfolding later_in
  at_later x = fold-roll-Tree (Option ℕ) (later_step code) x

  pub later_do : (y : Tree) (node : ℕ) (word : Word) → y ≡ Do node word → later_in code y ≡ (if is_taken code.main word then None else Some (line_of code node))
  later_do y node word h = ap (later_in code) (h ∙ sym (rolls-Do node word)) ∙ at_later (t.Do node word)

  pub later_taken : (y : Tree) (node : ℕ) (word : Word) → y ≡ Do node word → is_taken code.main word ≡ true → later_in code y ≡ None
  later_taken y node word h e = later_do y node word h ∙ ap (λ (b : Bool). if b then None else Some (line_of code node)) e

  pub later_untaken : (y : Tree) (node : ℕ) (word : Word) → y ≡ Do node word → is_taken code.main word ≡ false → later_in code y ≡ Some (line_of code node)
  later_untaken y node word h e = later_do y node word h ∙ ap (λ (b : Bool). if b then None else Some (line_of code node)) e

  pub later_if : (y : Tree) (node : ℕ) (a : Operand) (ys ns : List Tree) → y ≡ If node a ys ns → later_in code y ≡ Some (line_of code node)
  later_if y node a ys ns h = ap (later_in code) (h ∙ sym (rolls-If node a ys ns)) ∙ at_later (t.If node a ys ns)

  pub later_loop : (y : Tree) (first : List Tree) (node : ℕ) (a : Operand) (body : List Tree) → y ≡ Loop first node a body → later_in code y ≡ Some (unwrap_or (later_among code first) (line_of code node))
  later_loop y first node a body h = ap (later_in code) (h ∙ sym (rolls-Loop first node a body)) ∙ at_later (t.Loop first node a body)

  pub later_at : (y : Tree) (first : List Tree) (node : ℕ) (a : Operand) (body : List Tree) (found : Option ℕ) → y ≡ Loop first node a body → later_among code first ≡ found → later_in code y ≡ Some (unwrap_or found (line_of code node))
  later_at y first node a body found h e = later_loop y first node a body h ∙ ap (λ (o : Option ℕ). Some (unwrap_or o (line_of code node))) e

at_simple : (x : Tree-F Tree) → simple_tree (roll-Tree x) ≡ simple_step (map-Tree Tree SimpleTree simple_tree x)
unfolding simple_tree
at_simple x = fold-roll-Tree SimpleTree simple_step x

pub simple_do : (y : Tree) (node : ℕ) (w : Word) → y ≡ Do node w → simple_tree y ≡ simple.Do node (simple_word w)
simple_do y node w h = ap simple_tree (h ∙ sym (rolls-Do node w)) ∙ at_simple (t.Do node w)

pub simple_if : (y : Tree) (node : ℕ) (a : Operand) (ys ns : List Tree) → y ≡ If node a ys ns → simple_tree y ≡ simple.Do node (word.Return None)
simple_if y node a ys ns h = ap simple_tree (h ∙ sym (rolls-If node a ys ns)) ∙ at_simple (t.If node a ys ns)

pub simple_loop : (y : Tree) (first : List Tree) (node : ℕ) (a : Operand) (body : List Tree) → y ≡ Loop first node a body → simple_tree y ≡ simple.Do node (word.Return None)
simple_loop y first node a body h = ap simple_tree (h ∙ sym (rolls-Loop first node a body)) ∙ at_simple (t.Loop first node a body)
