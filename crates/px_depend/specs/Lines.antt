-- The statements of code, each with the node that holds it: the nearest `if` in a branch of which it stands, or loop in whose body, and else its method.
use Rattle.std.specs.Prelude.{ℕ, ◌+◌, List, [], ◌∷◌, ◌++◌, map, Option, Some, None}
use Rattle.px_normal.specs.declared.word.Word.{Word}
use Rattle.px_normal.specs.declared.word.Word.TheVariants as w
use Rattle.px_normal.specs.declared.method.Tree.{Tree, Tree-F, fold-Tree}
use Rattle.px_normal.specs.declared.method.Tree.TheOpen.{Tree-F as t}
use Rattle.px_normal.specs.declared.method.Method.{Method}
use Rattle.px_normal.specs.declared.code.Code.{Code}
use Rattle.px_depend.specs.declared.lines.Does.{Does}
use Rattle.px_depend.specs.declared.lines.Does.TheVariants as does
use Rattle.px_depend.specs.declared.lines.Line.{Line}

abbrev pub gives : {A : Type 0} → Option A → Does
gives None = does.Other
gives (Some a) = does.Gives

abbrev pub does_of : Word → Does
does_of (w.Call to of method args) = does.Calls method
does_of (w.Query to statement site params) = does.Asks
does_of (w.Update to statement params) = does.Asks
does_of (w.Return a) = gives a
does_of _ = does.Other

abbrev pub line : ℕ → ℕ → ℕ → Does → Line
line m by node d = record { method = m; by = by; node = node; does = d }

-- lines, by what holds the statements
abbrev pub Held : Type 0
Held = ℕ → List Line

abbrev pub flat : List Held → Held
flat [] by = []
flat (f ∷ fs) by = f by ++ flat fs by

-- the statements before a loop's test, and the test itself, are held by what holds the loop
abbrev pub lines_step : ℕ → Tree-F Held → Held
lines_step m (t.Do node x) = λ by. line m by node (does_of x) ∷ []
lines_step m (t.If node a yes' no') = λ by. line m by node does.Other ∷ (flat yes' node ++ flat no' node)
lines_step m (t.Loop before node a body) = λ by. flat before by ++ line m by node does.Other ∷ flat body node

unfoldable pub tree_lines : ℕ → Tree → Held
tree_lines m = fold-Tree Held (lines_step m)

abbrev pub trees_lines : ℕ → List Tree → Held
trees_lines m ts = flat (map (tree_lines m) ts)

abbrev pub methods_lines : ℕ → List Method → List Line
methods_lines m [] = []
methods_lines m (x ∷ xs) = trees_lines m x.body x.node ++ methods_lines (m + 1) xs

abbrev pub lines_of : Code → List Line
lines_of code = methods_lines 1 code.methods
