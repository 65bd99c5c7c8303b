-- Which statements two ends take, and the line of the first that they don't take yet.
use Rattle.std.specs.Prelude.{ℕ, ◌==◌, Bool, true, false, ◌&&◌, List, [], ◌∷◌, map, Option, Some, None, unwrap_or, if◌then◌else◌}
use Rattle.px_value.specs.declared.value.Value.{Value}
use Rattle.px_value.specs.declared.value.Value.TheVariants.{Text, Ref}
use Rattle.px_normal.specs.declared.word.Operand.{Operand}
use Rattle.px_normal.specs.declared.word.Operand.TheVariants.{Slot, Literal}
use Rattle.px_normal.specs.declared.word.Word.{Word}
use Rattle.px_normal.specs.declared.word.Word.TheVariants as w
use Rattle.px_normal.specs.declared.method.Method.{Method}
use Rattle.px_normal.specs.declared.method.Tree.{Tree, Tree-F, fold-Tree}
use Rattle.px_normal.specs.declared.method.Tree.TheOpen.{Tree-F as t}
use Rattle.px_normal.specs.declared.node.Node.{Node}
use Rattle.px_normal.specs.declared.code.Code.{Code}
use Rattle.px_normal.specs.First.{numbered}

-- ---- words

-- a number, a truth or null
abbrev pub is_plain : Value → Bool
is_plain (Text bytes) = false
is_plain (Ref object) = false
is_plain v = true

-- any slot, whatever its type, or a plain literal
abbrev pub is_taken_operand : Operand → Bool
is_taken_operand (Slot slot) = true
is_taken_operand (Literal v) = is_plain v

abbrev pub is_taken_option : Option Operand → Bool
is_taken_option None = true
is_taken_option (Some a) = is_taken_operand a

-- moves, operators, fields of the main class, and returns
abbrev pub is_taken : (main : ℕ) → Word → Bool
is_taken main (w.Set to a) = is_taken_operand a
is_taken main (w.Op op to a b) = is_taken_operand a && is_taken_option b
is_taken main (w.Get to of class field) = is_taken_operand of && (class == main)
is_taken main (w.Put of class field a) = is_taken_operand of && is_taken_operand a && (class == main)
is_taken main (w.Return a) = is_taken_option a
is_taken main _ = false

-- ---- lines

abbrev pub line_in : Option Node → ℕ
line_in None = 0
line_in (Some n) = n.line

-- the line of a node
abbrev pub line_of : Code → ℕ → ℕ
line_of code node = line_in (numbered code.nodes node)

abbrev pub first_of : List (Option ℕ) → Option ℕ
first_of [] = None
first_of (None ∷ more) = first_of more
first_of (Some line ∷ more) = Some line

-- In the order of nodes: an `if` comes before its branches, and a loop behind what stands before its test.
abbrev pub later_step : Code → Tree-F (Option ℕ) → Option ℕ
later_step code (t.Do node word) = if is_taken code.main word then None else Some (line_of code node)
later_step code (t.If node a yes' no') = Some (line_of code node)
later_step code (t.Loop first node a body) = Some (unwrap_or (first_of first) (line_of code node))

-- the line of the first statement in a tree that isn't taken
unfoldable pub later_in : Code → Tree → Option ℕ
later_in code = fold-Tree (Option ℕ) (later_step code)

abbrev pub later_among : Code → List Tree → Option ℕ
later_among code trees = first_of (map (later_in code) trees)

abbrev pub later_of : Code → Method → Option ℕ
later_of code m = later_among code m.body

-- Nodes are numbered in the order of the methods.
abbrev pub later : Code → Option ℕ
later code = first_of (map (later_of code) code.methods)
