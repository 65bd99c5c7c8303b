-- The first statement that prints at DB.
use Rattle.std.specs.Prelude.{ℕ, List, [], ◌∷◌, map, Option, Some, None, if◌then◌else◌}
use Rattle.px_normal.specs.declared.word.Word.{Word}
use Rattle.px_normal.specs.declared.word.Word.TheVariants as w
use Rattle.px_normal.specs.declared.method.Tree.{Tree, Tree-F, fold-Tree}
use Rattle.px_normal.specs.declared.method.Tree.TheOpen.{Tree-F as t}
use Rattle.px_normal.specs.declared.method.Method.{Method}
use Rattle.px_normal.specs.declared.code.Code.{Code}
use Rattle.px_blocks.specs.declared.side.Side.{Side}
use Rattle.px_blocks.specs.Sides.{is_app}
use Rattle.px_blocks.specs.Rules.{side_of}

abbrev pub print_at : List Side → ℕ → Word → Option ℕ
print_at sides node (w.Print a) = if is_app (side_of sides node) then None else Some node
print_at sides node _ = None

abbrev pub or_else : Option ℕ → Option ℕ → Option ℕ
or_else None y = y
or_else (Some n) y = Some n

abbrev pub first_of : List (Option ℕ) → Option ℕ
first_of [] = None
first_of (x ∷ xs) = or_else x (first_of xs)

abbrev pub first_step : List Side → Tree-F (Option ℕ) → Option ℕ
first_step sides (t.Do node word) = print_at sides node word
first_step sides (t.If node a yes' no') = or_else (first_of yes') (first_of no')
first_step sides (t.Loop before node a body) = or_else (first_of before) (first_of body)

unfoldable pub first_in : List Side → Tree → Option ℕ
first_in sides = fold-Tree (Option ℕ) (first_step sides)

abbrev pub first_among : List Side → List Tree → Option ℕ
first_among sides trees = first_of (map (first_in sides) trees)

abbrev pub first_in_methods : List Side → List Method → Option ℕ
first_in_methods sides [] = None
first_in_methods sides (m ∷ ms) = or_else (first_among sides m.body) (first_in_methods sides ms)

-- in the order of the code
abbrev pub unpinned : Code → List Side → Option ℕ
unpinned code sides = first_in_methods sides code.methods
