-- What is run of a checked program.
use Rattle.std.specs.Prelude.{List, [], ◌∷◌, ◌++◌}
use Rattle.px_tree.specs.declared.Class.{Class}
use Rattle.px_tree.specs.declared.Member.{Member}
use Rattle.px_tree.specs.declared.Member.TheVariants as member
use Rattle.px_tree.specs.declared.Method.{Method}
use Rattle.px_facts.specs.declared.checked.Checked.{Checked}
use Rattle.px_mean.specs.Calls.{Source}

-- methods in the order of the file, which is that of their numbers
abbrev pub methods_in : List Member → List Method
methods_in [] = []
methods_in (member.Field f ∷ ms) = methods_in ms
methods_in (member.Method m ∷ ms) = m ∷ methods_in ms

abbrev pub methods_of : List Class → List Method
methods_of [] = []
methods_of (c ∷ cs) = methods_in c.members ++ methods_of cs

abbrev pub source_from : Checked → Source
source_from checked = record { facts = checked.facts; methods = methods_of checked.program.classes }
