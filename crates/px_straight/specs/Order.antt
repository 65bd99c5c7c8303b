-- The statements of code, in the order of their nodes.
use Rattle.std.specs.Prelude.{ℕ, Bool, false, List, [], ◌∷◌, ◌++◌, map, Option, Some, None, if◌then◌else◌}
use Rattle.px_normal.specs.declared.method.Method.{Method}
use Rattle.px_normal.specs.declared.method.Tree.{Tree, Tree-F, fold-Tree}
use Rattle.px_normal.specs.declared.method.Tree.TheOpen.{Tree-F as t}
use Rattle.px_normal.specs.declared.code.Code.{Code}
use Rattle.px_straight.specs.Taken.{is_taken}

-- a statement or a test, and whether two ends take it
pub record Judged : Type 0 where
  pub node : ℕ
  pub taken : Bool

abbrev pub joined : List (List Judged) → List Judged
joined [] = []
joined (xs ∷ more) = xs ++ joined more

abbrev pub judged : Bool → ℕ → Judged
judged taken node = record { node = node; taken = taken }

abbrev pub judged_step : Code → Tree-F (List Judged) → List Judged
judged_step code (t.Do node word) = judged (is_taken code.main word) node ∷ []
judged_step code (t.If node a yes' no') = judged false node ∷ (joined yes' ++ joined no')
judged_step code (t.Loop first node a body) = joined first ++ judged false node ∷ joined body

unfoldable pub judged_in : Code → Tree → List Judged
judged_in code = fold-Tree (List Judged) (judged_step code)

abbrev pub judged_among : Code → List Tree → List Judged
judged_among code trees = joined (map (judged_in code) trees)

abbrev pub judged_of : Code → Method → List Judged
judged_of code m = judged_among code m.body

abbrev pub all_judged : Code → List Judged
all_judged code = joined (map (judged_of code) code.methods)

abbrev pub first_untaken : List Judged → Option ℕ
first_untaken [] = None
first_untaken (s ∷ more) = if s.taken then first_untaken more else Some s.node
