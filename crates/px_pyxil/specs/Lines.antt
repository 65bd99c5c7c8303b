-- The lines of a tree, in order.
use Rattle.std.specs.Prelude.{List, [], ◌∷◌, ◌++◌, map, Option, Some, None}
use Rattle.std.specs.List.{flat_map}
use Rattle.px_blocks.specs.declared.block.Send.{Send}
use Rattle.px_pyxil.specs.declared.tree.Tree.{Tree, Tree-F, fold-Tree}
use Rattle.px_pyxil.specs.declared.tree.Tree.TheOpen.{Tree-F as t}
use Rattle.px_pyxil.specs.declared.tree.Method.{Method}
use Rattle.px_pyxil.specs.declared.tree.Pyxil.{Pyxil}
use Rattle.px_pyxil.specs.declared.line.Line.{Line}
use Rattle.px_pyxil.specs.declared.line.Line.TheVariants as line

abbrev pub send_lines : Option Send → List Line
send_lines None = []
send_lines (Some send) = line.Send send ∷ []

abbrev pub joined : List (List Line) → List Line
joined lines = flat_map (λ l. l) lines

-- the lines of a statement, by those of the statements in it
abbrev pub lines_step : Tree-F (List Line) → List Line
lines_step (t.Do at word send) = line.Do at word ∷ send_lines send
lines_step (t.If at test yes' no') = line.If at test ∷ (joined yes' ++ line.Else ∷ (joined no' ++ line.End ∷ []))
lines_step (t.Loop first at test body) = line.Loop ∷ (joined first ++ line.Test at test ∷ (joined body ++ line.End ∷ []))

unfoldable pub lines_in : Tree → List Line
lines_in = fold-Tree (List Line) lines_step

abbrev pub lines_in_all : List Tree → List Line
lines_in_all trees = joined (map lines_in trees)

abbrev pub method_lines : Method → List Line
method_lines method = line.Method method.head ∷ (lines_in_all method.body ++ line.End ∷ [])

-- fields first, then sites, then methods
abbrev pub lines_of : Pyxil → List Line
lines_of pyxil = map line.Field pyxil.fields ++ (map line.Site pyxil.sites ++ flat_map method_lines pyxil.methods)
