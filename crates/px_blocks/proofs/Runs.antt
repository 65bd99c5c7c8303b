-- The run of each kind of tree, and of a loop with turns left.
use Rattle.std.proofs.Common.{◌≡◌, ℕ, zero, suc, List, refl, sym, ap, ◌∙◌}
use Rattle.std.specs.Prelude.{if◌then◌else◌}
use Rattle.px_value.specs.declared.value.Value.{Value}
use Rattle.px_value.specs.declared.thrown.Thrown.TheVariants.{TurnsOut, StackOverflowError}
use Rattle.px_value.specs.Outcome.{◌>>=◌, pure, throw, on_shared, Flow, Goes, goes_on}
use Rattle.px_normal.specs.declared.word.Operand.{Operand}
use Rattle.px_normal.specs.declared.word.Word.{Word}
use Rattle.px_normal.specs.declared.method.Tree.{Tree, Tree-F, fold-roll-Tree, roll-Tree, map-Tree}
use Rattle.px_normal.specs.declared.method.Tree.TheVariants.{Do, If, Loop, rolls-Do, rolls-If, rolls-Loop}
use Rattle.px_normal.specs.declared.method.Tree.TheOpen.{Tree-F as t}
use Rattle.px_normal.specs.declared.code.Code.{Code}
use Rattle.px_effects.specs.Run.{Ask, turn}
use Rattle.px_normal.specs.Run.{Here, on_traced}
use Rattle.px_normal.specs.Words.{is_true}
use Rattle.px_normal.specs.First.{numbered}
use Rattle.px_value.specs.Limits.{all_turns, all_frames}
use Rattle.px_normal.specs.CodeRun.{Calls, word_run, tested, loop, tree_step, tree_run, body_run, calls_in, enters}

module _ {Q W : Type 0} (code : Code) (ask : Ask Q W) (calls : Calls Q W) where
  at_tree : (x : Tree-F Tree) → tree_run code ask calls (roll-Tree x) ≡ tree_step code ask calls (map-Tree Tree (Here Q W (Flow Value)) (tree_run code ask calls) x)
  unfolding tree_run
  at_tree x = fold-roll-Tree (Here Q W (Flow Value)) (tree_step code ask calls) x

  pub run_do : (node : ℕ) (word : Word) → tree_run code ask calls (Do node word) ≡ word_run code ask calls node word
  run_do node word = ap (tree_run code ask calls) (sym (rolls-Do node word)) ∙ at_tree (t.Do node word)

  pub run_if : (node : ℕ) (a : Operand) (ys ns : List Tree) → tree_run code ask calls (If node a ys ns) ≡ (tested node a >>= (λ v. if is_true v then body_run code ask calls ys else body_run code ask calls ns))
  run_if node a ys ns = ap (tree_run code ask calls) (sym (rolls-If node a ys ns)) ∙ at_tree (t.If node a ys ns)

  pub run_loop : (first : List Tree) (node : ℕ) (a : Operand) (body : List Tree) → tree_run code ask calls (Loop first node a body) ≡ loop (body_run code ask calls first) (tested node a) (body_run code ask calls body) all_turns
  run_loop first node a body = ap (tree_run code ask calls) (sym (rolls-Loop first node a body)) ∙ at_tree (t.Loop first node a body)

pub loop_zero : {Q W : Type 0} (first : Here Q W (Flow Value)) (test : Here Q W Value) (body : Here Q W (Flow Value)) → loop first test body zero ≡ (first >>= goes_on (test >>= (λ v. on_shared (on_traced turn) >>= (λ _. throw TurnsOut))))
unfolding loop
loop_zero first test body = refl

pub loop_suc : {Q W : Type 0} (first : Here Q W (Flow Value)) (test : Here Q W Value) (body : Here Q W (Flow Value)) (n : ℕ) → loop first test body (suc n) ≡ (first >>= goes_on (test >>= (λ v. on_shared (on_traced turn) >>= (λ _. if is_true v then body >>= goes_on (loop first test body n) else pure Goes))))
unfolding loop
loop_suc first test body n = refl

pub calls_zero : {Q W : Type 0} (code : Code) (ask : Ask Q W) (method : ℕ) (values : List Value) → calls_in code ask zero method values ≡ throw StackOverflowError
unfolding calls_in
calls_zero code ask method values = refl

pub calls_suc : {Q W : Type 0} (code : Code) (ask : Ask Q W) (n method : ℕ) (values : List Value) → calls_in code ask (suc n) method values ≡ enters code ask (calls_in code ask n) (numbered code.methods method) values
unfolding calls_in
calls_suc code ask n method values = refl

pub all_turns_are : all_turns ≡ 100001
unfolding all_turns
all_turns_are = refl

pub all_frames_are : all_frames ≡ 200
unfolding all_frames
all_frames_are = refl
