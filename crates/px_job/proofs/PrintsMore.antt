-- The prints of each kind of tree.
use Rattle.std.proofs.Common.{◌≡◌, ℕ, ◌+◌, ◌<◌, ◌==◌, Bool, true, false, cond, ◌||◌, List, ◌++◌, length, drop, get_or, Result, Ok, Err, OnOk, append_assoc, refl, sym, ap, ◌∙◌}
use Rattle.std.proofs.lemmas.List.{drop_more}
use Rattle.px_normal.specs.declared.word.Operand.{Operand}
use Rattle.px_normal.specs.declared.word.Word.{Word}
use Rattle.px_normal.specs.declared.method.Tree.{Tree, Tree-F, fold-roll-Tree, roll-Tree, map-Tree}
use Rattle.px_normal.specs.declared.method.Tree.TheVariants.{Do, If, Loop, rolls-Do, rolls-If, rolls-Loop}
use Rattle.px_normal.specs.declared.method.Tree.TheOpen.{Tree-F as t}
use Rattle.px_job.specs.Prints.{if_print, prints_step, prints_in, prints_among, is_print}

at_tree : (x : Tree-F Tree) → prints_in (roll-Tree x) ≡ prints_step (map-Tree Tree (List ℕ) prints_in x)
unfolding prints_in
at_tree x = fold-roll-Tree (List ℕ) prints_step x

of_do : (node : ℕ) (x : Word) → prints_in (Do node x) ≡ if_print node x
of_do node x = ap prints_in (sym (rolls-Do node x)) ∙ at_tree (t.Do node x)

of_if : (node : ℕ) (a : Operand) (ys ns : List Tree) → prints_in (If node a ys ns) ≡ prints_among ys ++ prints_among ns
of_if node a ys ns = ap prints_in (sym (rolls-If node a ys ns)) ∙ at_tree (t.If node a ys ns)

of_loop : (before : List Tree) (node : ℕ) (a : Operand) (body : List Tree) → prints_in (Loop before node a body) ≡ prints_among before ++ prints_among body
of_loop before node a body = ap prints_in (sym (rolls-Loop before node a body)) ∙ at_tree (t.Loop before node a body)

pub is_do : (x : Tree) (node : ℕ) (word : Word) → x ≡ Do node word → prints_in x ≡ if_print node word
is_do x node word e = ap prints_in e ∙ of_do node word

pub is_if : (x : Tree) (node : ℕ) (a : Operand) (ys ns ys' ns' : List Tree) → x ≡ If node a ys ns → ys' ≡ ys → ns' ≡ ns → prints_in x ≡ prints_among ys' ++ prints_among ns'
is_if x node a ys ns ys' ns' e y n = ap prints_in e ∙ of_if node a ys ns ∙ ap (λ (z : List Tree). prints_among z ++ prints_among ns) (sym y) ∙ ap (λ (z : List Tree). prints_among ys' ++ prints_among z) (sym n)

pub is_loop : (x : Tree) (before : List Tree) (node : ℕ) (a : Operand) (body before' body' : List Tree) → x ≡ Loop before node a body → before' ≡ before → body' ≡ body → prints_in x ≡ prints_among before' ++ prints_among body'
is_loop x before node a body before' body' e y n = ap prints_in e ∙ of_loop before node a body ∙ ap (λ (z : List Tree). prints_among z ++ prints_among body) (sym y) ∙ ap (λ (z : List Tree). prints_among before' ++ prints_among z) (sym n)

pub two_parts : {X E : Type 0} (r : Result X E) (old mid new y n all : List ℕ) → mid ≡ old ++ y → all ≡ y ++ n → OnOk r (new ≡ mid ++ n) → OnOk r (new ≡ old ++ all)
two_parts (Ok x) old mid new y n all e f h = h ∙ ap (λ (xs : List ℕ). xs ++ n) e ∙ append_assoc old y n ∙ ap (λ (xs : List ℕ). old ++ xs) (sym f)
two_parts (Err x) old mid new y n all e f h = tt

-- ---- the set of prints

put_in : (here old rest : Bool) → (cond here true old || rest) ≡ (old || (here || rest))
put_in true true rest = refl
put_in true false rest = refl
put_in false old rest = refl

-- one number more is in the set
pub set_more : (numbers : List ℕ) (place number default n : ℕ) (old new whole : Bool) → place < length numbers → number ≡ get_or numbers place default → new ≡ cond (number == n) true old → (old || is_print (drop place numbers) n) ≡ whole → (new || is_print (drop (place + 1) numbers) n) ≡ whole
set_more numbers place number default n old new whole h e u i =
    ap (λ (b : Bool). b || is_print (drop (place + 1) numbers) n) u
    ∙ put_in (number == n) old (is_print (drop (place + 1) numbers) n)
    ∙ ap (λ (m : ℕ). old || ((m == n) || is_print (drop (place + 1) numbers) n)) e
    ∙ ap (λ (rest : List ℕ). old || is_print rest n) (sym (drop_more numbers place default h))
    ∙ i
