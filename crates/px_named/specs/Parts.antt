-- The text of a part: its name, and its placed code.
use Rattle.std.specs.Prelude.{ℕ, List, ◌∷◌, ◌++◌, codes}
use Rattle.px_pyxil.specs.declared.tree.Pyxil.{Pyxil}
use Rattle.px_pyxil.specs.Spelling.{text_of}

abbrev pub part_text : List ℕ → Pyxil → List ℕ
part_text name pyxil = codes "part " ++ (name ++ 10 ∷ text_of pyxil)
