-- How code is cut into blocks.
use Rattle.std.specs.Prelude.{ℕ, ◌+◌, Bool, true, false, ◌&&◌, List, [], ◌∷◌, ◌++◌, length, map, Option, Some, None, if◌then◌else◌}
use Rattle.px_code.specs.declared.side.Side.{Side}
use Rattle.px_code.specs.declared.side.Side.TheVariants.{App}
use Rattle.px_code.specs.declared.word.Operand.TheVariants.{Slot}
use Rattle.px_code.specs.declared.word.Word.{Word}
use Rattle.px_code.specs.declared.word.Word.TheVariants as w
use Rattle.px_code.specs.declared.method.Method.{Method}
use Rattle.px_code.specs.declared.method.Tree.{Tree}
use Rattle.px_code.specs.declared.method.Tree.TheVariants.{Do}
use Rattle.px_code.specs.declared.code.Code.{Code}
use Rattle.px_code.specs.declared.block.Send.{Send}
use Rattle.px_code.specs.declared.block.Statement.{Statement}
use Rattle.px_code.specs.declared.block.Block.{Block}
use Rattle.px_code.specs.Places.{other, side_of, same_side, field_node}
use Rattle.px_code.specs.Cut.{ends_in_return, exit_if}
use Rattle.px_points.specs.Marks.{is_marked}
use Rattle.px_points.specs.Places.{slot_points}
use Rattle.px_compile.specs.declared.facts.Facts.{Facts}
use Rattle.px_compile.specs.declared.cut.Stretch.{Stretch}
use Rattle.px_compile.specs.Kept.{fields_at}

-- ---- sends

-- a write of a field through a slot is of one that the other side keeps
abbrev pub writes_kept : Facts → List Side → (m node of field : ℕ) → Bool
writes_kept facts sides m node of field = slot_points facts.points m of && is_marked (fields_at facts.kept (other (side_of sides node))) field

abbrev pub send_if : Bool → Send → Option Send
send_if true send = Some send
send_if false send = None

abbrev pub send_of : Code → List Side → Facts → ℕ → ℕ → Word → Option Send
send_of code sides facts m node (w.Put (Slot of) class field value) = send_if (writes_kept facts sides m node of field) (record { home = side_of sides (field_node code class field); object = Slot of })
send_of code sides facts m node _ = None

abbrev pub statement_of : Code → List Side → Facts → ℕ → Tree → Statement
statement_of code sides facts m (Do node word) = record { node = node; word = word; send = send_of code sides facts m node word }

-- ---- blocks

-- a block of this number
abbrev pub block_of : ℕ → ℕ → Side → List Statement → Block
block_of n m side statements = record { method = m; side = side; statements = statements; exit = exit_if (ends_in_return statements) (n + 1) }

-- the last block of a method, if a statement is left
abbrev pub last_block : ℕ → ℕ → Side → List Statement → List Block
last_block n m side [] = []
last_block n m side (s ∷ statements) = block_of n m side (s ∷ statements) ∷ []

-- the blocks from number n on, of the statements begun at a side and those that come
unfoldable pub cut_on : List Side → ℕ → ℕ → Side → List Statement → List Statement → List Block
cut_on sides n m side begun [] = last_block n m side begun
cut_on sides n m side begun (s ∷ statements) = if same_side (side_of sides s.node) side then cut_on sides n m side (begun ++ s ∷ []) statements else block_of n m side begun ∷ cut_on sides (n + 1) m (side_of sides s.node) (s ∷ []) statements

-- the blocks so far, and those of a stretch and of what comes
abbrev pub cut_after : List Side → ℕ → List Block → Stretch → List Statement → List Block
cut_after sides m blocks stretch rest = blocks ++ cut_on sides (length blocks + 1) m stretch.side stretch.statements rest

abbrev pub first_side : List Side → List Tree → Side
first_side sides [] = App
first_side sides (Do node word ∷ trees) = side_of sides node

unfoldable pub cut_body : Code → List Side → Facts → ℕ → ℕ → List Tree → List Block
cut_body code sides facts n m body = cut_on sides n m (first_side sides body) [] (map (statement_of code sides facts m) body)

-- ---- methods

abbrev pub after_body : Code → List Side → Facts → ℕ → ℕ → Method → ℕ
after_body code sides facts n m method = n + length (cut_body code sides facts n m method.body)

abbrev pub cut_methods : Code → List Side → Facts → ℕ → ℕ → List Method → List Block
cut_methods code sides facts n m [] = []
cut_methods code sides facts n m (method ∷ methods) = cut_body code sides facts n m method.body ++ cut_methods code sides facts (after_body code sides facts n m method) (m + 1) methods

-- the number of the first block of each method
abbrev pub firsts_of : Code → List Side → Facts → ℕ → ℕ → List Method → List ℕ
firsts_of code sides facts n m [] = []
firsts_of code sides facts n m (method ∷ methods) = n ∷ firsts_of code sides facts (after_body code sides facts n m method) (m + 1) methods
