-- The statements that print.
use Rattle.std.specs.Prelude.{◌≡◌, ℕ, ◌==◌, Bool, List, [], ◌∷◌, ◌++◌, map}
use Rattle.std.specs.List.{list_any}
use Rattle.std.specs.HashSet.{HashSet, contains_by}
use Rattle.px_normal.specs.declared.code.Code.{Code}
use Rattle.px_normal.specs.declared.method.Method.{Method}
use Rattle.px_normal.specs.declared.method.Tree.{Tree, Tree-F, fold-Tree}
use Rattle.px_normal.specs.declared.method.Tree.TheOpen.{Tree-F as t}
use Rattle.px_normal.specs.declared.word.Word.{Word}
use Rattle.px_normal.specs.declared.word.Word.TheVariants as words

abbrev pub if_print : ℕ → Word → List ℕ
if_print node (words.Print value) = node ∷ []
if_print node _ = []

abbrev pub all_of : List (List ℕ) → List ℕ
all_of [] = []
all_of (numbers ∷ more) = numbers ++ all_of more

abbrev pub prints_step : Tree-F (List ℕ) → List ℕ
prints_step (t.Do node word) = if_print node word
prints_step (t.If node test branch other) = all_of branch ++ all_of other
prints_step (t.Loop before node test body) = all_of before ++ all_of body

-- the nodes of the statements that print
unfoldable pub prints_in : Tree → List ℕ
prints_in = fold-Tree (List ℕ) prints_step

abbrev pub prints_among : List Tree → List ℕ
prints_among trees = all_of (map prints_in trees)

abbrev pub prints_of_methods : List Method → List ℕ
prints_of_methods [] = []
prints_of_methods (method ∷ methods) = prints_among method.body ++ prints_of_methods methods

abbrev pub prints_of : Code → List ℕ
prints_of code = prints_of_methods code.methods

-- the node of a number is a print
abbrev pub is_print : List ℕ → ℕ → Bool
is_print prints number = list_any (λ node. node == number) prints

-- a set has these numbers
abbrev pub has_node : {S : Type 0} → HashSet ℕ S → ℕ → Bool
has_node nodes number = contains_by (λ node. number == node) nodes

abbrev pub ArePrints : {S : Type 0} → HashSet ℕ S → List ℕ → Type 0
ArePrints {S} nodes prints = (number : ℕ) → has_node nodes number ≡ is_print prints number
