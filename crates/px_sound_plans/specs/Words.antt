-- The words of a method's statements, in order.
use Rattle.std.specs.Prelude.{ℕ, List, [], ◌∷◌, ◌++◌, map, Option, Some, None}
use Rattle.px_normal.specs.declared.word.Word.{Word}
use Rattle.px_normal.specs.declared.method.Tree.{Tree, Tree-F, fold-Tree}
use Rattle.px_normal.specs.declared.method.Tree.TheOpen.{Tree-F as t}
use Rattle.px_normal.specs.declared.method.Method.{Method}
use Rattle.px_normal.specs.declared.code.Code.{Code}
use Rattle.px_normal.specs.First.{numbered}

abbrev pub flat : List (List Word) → List Word
flat [] = []
flat (xs ∷ rest) = xs ++ flat rest

abbrev pub words_step : Tree-F (List Word) → List Word
words_step (t.Do node word) = word ∷ []
words_step (t.If node a yes' no') = flat yes' ++ flat no'
words_step (t.Loop before node a body) = flat before ++ flat body

unfoldable pub words_in : Tree → List Word
words_in = fold-Tree (List Word) words_step

abbrev pub words_among : List Tree → List Word
words_among trees = flat (map words_in trees)

abbrev pub words_of : Option Method → List Word
words_of None = []
words_of (Some m) = words_among m.body

abbrev pub method_words : Code → ℕ → List Word
method_words code m = words_of (numbered code.methods m)
