-- The run of each kind of tree, and of lists of trees.
use Rattle.std.proofs.Common.{◌≡◌, ℕ, List, [], ◌∷◌, ◌++◌, map, if◌then◌else◌, refl, sym, ap, ◌∙◌}
use Rattle.px_value.specs.declared.value.Value.{Value}
use Rattle.px_value.specs.Outcome.{Outcome, Gives, Throws, Asks, Run, then_run, ◌>>=◌, Flow, Goes, Returns, goes_on, pure, in_order}
use Rattle.px_effects.specs.Run.{Ask}
use Rattle.px_normal.specs.declared.word.Operand.{Operand}
use Rattle.px_normal.specs.declared.word.Word.{Word}
use Rattle.px_normal.specs.declared.method.Tree.{Tree, Tree-F, fold-roll-Tree, roll-Tree, map-Tree}
use Rattle.px_normal.specs.declared.method.Tree.TheVariants.{Do, If, Loop, rolls-Do, rolls-If, rolls-Loop}
use Rattle.px_normal.specs.declared.method.Tree.TheOpen.{Tree-F as t}
use Rattle.px_normal.specs.declared.code.Code.{Code}
use Rattle.px_normal.specs.Run.{Frame, Here}
use Rattle.px_normal.specs.Words.{is_true}
use Rattle.px_normal.specs.CodeRun.{Calls, all_turns, word_run, tested, loop, tree_step, tree_run, body_run}

pub then_assoc : {Q S A B C : Type 0} (o : Outcome Q S A) (f : A → Run Q S B) (g : B → Run Q S C) → then_run (then_run o f) g ≡ then_run o (λ a s. then_run (f a s) g)
then_assoc (Gives a s) f g = refl
then_assoc (Throws t s) f g = refl
then_assoc (Asks q s) f g = refl

pub then_same : {Q S A B : Type 0} (o : Outcome Q S A) (f g : A → Run Q S B) → ((a : A) (s : S) → f a s ≡ g a s) → then_run o f ≡ then_run o g
then_same (Gives a s) f g h = h a s
then_same (Throws t s) f g h = refl
then_same (Asks q s) f g h = refl

order_after : {Q S V : Type 0} (a b q : Run Q S (Flow V)) (f : Flow V) (c : S) → ((c : S) → a c ≡ then_run (b c) (goes_on q)) → goes_on a f c ≡ then_run (goes_on b f c) (goes_on q)
order_after a b q Goes c h = h c
order_after a b q (Returns v) c h = refl

pub in_order_append : {Q S V : Type 0} (rs qs : List (Run Q S (Flow V))) (s : S) → in_order (rs ++ qs) s ≡ then_run (in_order rs s) (goes_on (in_order qs))
in_order_append [] qs s = refl
in_order_append (r ∷ rs) qs s = then_same (r s) _ _ (λ f c. order_after _ _ _ f c (in_order_append rs qs)) ∙ sym (then_assoc (r s) (goes_on (in_order rs)) (goes_on (in_order qs)))

-- nothing more to do
pub goes_pure : {Q S V : Type 0} (o : Outcome Q S (Flow V)) → then_run o (goes_on (pure Goes)) ≡ o
goes_pure (Gives Goes s) = refl
goes_pure (Gives (Returns v) s) = refl
goes_pure (Throws t s) = refl
goes_pure (Asks q s) = refl

map_append : {A B : Type 0} (f : A → B) (xs ys : List A) → map f (xs ++ ys) ≡ map f xs ++ map f ys
map_append f [] ys = refl
map_append f (x ∷ xs) ys = ap (λ l. f x ∷ l) (map_append f xs ys)

module _ (Q W : Type 0) (code : Code) (ask : Ask Q W) (calls : Calls Q W) where
  abbrev R : Type 0
  R = Here Q W (Flow Value)

  at_tree : (x : Tree-F Tree) → tree_run code ask calls (roll-Tree x) ≡ tree_step code ask calls (map-Tree Tree R (tree_run code ask calls) x)
  unfolding tree_run
  at_tree x = fold-roll-Tree R (tree_step code ask calls) x

  pub run_do : (node : ℕ) (x : Word) → tree_run code ask calls (Do node x) ≡ word_run code ask calls node x
  run_do node x = ap (tree_run code ask calls) (sym (rolls-Do node x)) ∙ at_tree (t.Do node x)

  pub run_if : (node : ℕ) (a : Operand) (ys ns : List Tree) → tree_run code ask calls (If node a ys ns) ≡ (tested node a >>= (λ v. if is_true v then body_run code ask calls ys else body_run code ask calls ns))
  run_if node a ys ns = ap (tree_run code ask calls) (sym (rolls-If node a ys ns)) ∙ at_tree (t.If node a ys ns)

  pub run_loop : (first : List Tree) (node : ℕ) (a : Operand) (body : List Tree) → tree_run code ask calls (Loop first node a body) ≡ loop (body_run code ask calls first) (tested node a) (body_run code ask calls body) all_turns
  run_loop first node a body = ap (tree_run code ask calls) (sym (rolls-Loop first node a body)) ∙ at_tree (t.Loop first node a body)

  pub run_append : (xs ys : List Tree) (c : Frame W) → body_run code ask calls (xs ++ ys) c ≡ then_run (body_run code ask calls xs c) (goes_on (body_run code ask calls ys))
  run_append xs ys c = ap (λ (rs : List R). in_order rs c) (map_append (tree_run code ask calls) xs ys) ∙ in_order_append (map (tree_run code ask calls) xs) (map (tree_run code ask calls) ys) c

  -- one tree alone
  pub run_one : (x : Tree) (c : Frame W) → body_run code ask calls (x ∷ []) c ≡ tree_run code ask calls x c
  run_one x c = goes_pure (tree_run code ask calls x c)
