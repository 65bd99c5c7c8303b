-- That statements whose nodes are numbered in order have nodes of their own.
use Rattle.std.specs.Prelude.{◌≡◌, ℕ, List, ◌++◌, length}
use Rattle.px_normal.specs.declared.word.Word.{Word}
use Rattle.px_normal.specs.declared.code.Code.{Code}
use Rattle.px_flow_points.specs.Statements.{HasStatement}
use Rattle.px_typed_code.specs.Nodes.{method_nodes, count_up}
use Rattle.px_sync.specs.Sends.{IsOwn}

abbrev pub NodesAreOwn : Type 0
NodesAreOwn = (code : Code) (rest : List ℕ) → method_nodes code.methods ++ rest ≡ count_up 1 (length code.nodes) → (m node : ℕ) (word : Word) → HasStatement code m node word → IsOwn code node
