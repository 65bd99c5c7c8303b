-- The order of nodes.
use Rattle.std.specs.Prelude.{◌≡◌, ℕ, zero, suc, ◌+◌, List, [], ◌∷◌, ◌++◌, length, map, Option, Some, None}
use Rattle.px_facts.specs.declared.checked.Checked.{Checked}
use Rattle.px_mean.specs.Program.{source_from}
use Rattle.px_mean.specs.Typing.{IsTyped as IsTypedSource}
use Rattle.px_normal.specs.declared.method.Method.{Method}
use Rattle.px_normal.specs.declared.method.Tree.{Tree, Tree-F, fold-Tree}
use Rattle.px_normal.specs.declared.method.Tree.TheOpen.{Tree-F as t}
use Rattle.px_normal.specs.declared.class.Field.{Field}
use Rattle.px_normal.specs.declared.class.Class.{Class}
use Rattle.px_normal.specs.declared.code.Site.{Site}
use Rattle.px_lowering.specs.Programs.{lowered}
use Rattle.px_typed_code.specs.Laws.{AreUsedWell}

abbrev pub joined : List (List ℕ) → List ℕ
joined [] = []
joined (xs ∷ more) = xs ++ joined more

-- in the order in which statements and tests are reached
abbrev pub nodes_step : Tree-F (List ℕ) → List ℕ
nodes_step (t.Do node word) = node ∷ []
nodes_step (t.If node a yes' no') = node ∷ (joined yes' ++ joined no')
nodes_step (t.Loop first node a body) = joined first ++ node ∷ joined body

unfoldable pub nodes_in : Tree → List ℕ
nodes_in = fold-Tree (List ℕ) nodes_step

abbrev pub all_nodes : List Tree → List ℕ
all_nodes trees = joined (map nodes_in trees)

-- a method's own, and those of its statements
abbrev pub nodes_of : Method → List ℕ
nodes_of m = m.node ∷ all_nodes m.body

abbrev pub method_nodes : List Method → List ℕ
method_nodes ms = joined (map nodes_of ms)

abbrev pub field_node : Field → ℕ
field_node f = f.node

abbrev pub field_nodes : Class → List ℕ
field_nodes c = map field_node c.fields

abbrev pub class_nodes : List Class → List ℕ
class_nodes cs = joined (map field_nodes cs)

abbrev pub if_any : Option ℕ → List ℕ
if_any None = []
if_any (Some node) = node ∷ []

abbrev pub node_of : Site → List ℕ
node_of s = if_any s.node

abbrev pub site_nodes : List Site → List ℕ
site_nodes sites = joined (map node_of sites)

-- so many numbers, from this one on
abbrev pub count_up : ℕ → ℕ → List ℕ
count_up first zero = []
count_up first (suc n) = first ∷ count_up (first + 1) n

-- Nodes are numbered from 1 in the order of the code: methods, then fields, then sites, each once.
abbrev pub NodesInOrder : Type 0
NodesInOrder = (P : Checked) → IsTypedSource (source_from P) → AreUsedWell P → method_nodes (lowered P).methods ++ (class_nodes (lowered P).classes ++ site_nodes (lowered P).sites) ≡ count_up 1 (length (lowered P).nodes)
