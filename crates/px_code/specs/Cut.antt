-- The blocks into which code is cut: longest stretches of statements at one side.
use Rattle.std.specs.Prelude.{◌≡◌, ℕ, ◌+◌, ◌==◌, Bool, true, false, List, [], ◌∷◌, ◌++◌, map, if◌then◌else◌}
use Rattle.std.specs.List.{AllByRecursion, flat_map}
use Rattle.px_code.specs.declared.side.Side.{Side}
use Rattle.px_code.specs.declared.word.Word.{Word}
use Rattle.px_code.specs.declared.method.Method.{Method}
use Rattle.px_code.specs.declared.method.Tree.{Tree}
use Rattle.px_code.specs.declared.method.Tree.TheVariants.{Do}
use Rattle.px_code.specs.declared.code.Code.{Code}
use Rattle.px_code.specs.declared.block.Statement.{Statement}
use Rattle.px_code.specs.declared.block.Block.{Block}
use Rattle.px_code.specs.declared.block.Blocks.{Blocks}
use Rattle.px_code.specs.declared.block.Exit.{Exit}
use Rattle.px_code.specs.declared.block.Exit.TheVariants.{Return as Leaves, Next}
use Rattle.px_code.specs.Places.{side_of}
use Rattle.px_code.specs.Sends.{IsRightSend}
use Rattle.px_code.specs.Machine.{is_return}

-- a statement in its method
pub record Line : Type 0 where
  pub method : ℕ
  pub node : ℕ
  pub word : Word

abbrev pub tree_line : ℕ → Tree → Line
tree_line m (Do node word) = record { method = m; node = node; word = word }

-- the statements of methods, numbered from m
abbrev pub lines_from : ℕ → List Method → List Line
lines_from m [] = []
lines_from m (method ∷ methods) = map (tree_line m) method.body ++ lines_from (m + 1) methods

abbrev pub statement_line : ℕ → Statement → Line
statement_line m s = record { method = m; node = s.node; word = s.word }

abbrev pub block_lines : Block → List Line
block_lines b = map (statement_line b.method) b.statements

-- ---- each block

abbrev pub IsFilled : List Statement → Type 0
IsFilled [] = ⊥
IsFilled (s ∷ statements) = Unit {0}

-- a statement at the side of its block, with the send that it needs
pub record IsPlaced (code : Code) (sides : List Side) (b : Block) (s : Statement) : Type 0 where
  pub side : side_of sides s.node ≡ b.side
  pub send : IsRightSend code sides b.method s.node s.word s.send

abbrev pub ends_in_return : List Statement → Bool
ends_in_return [] = false
ends_in_return (s ∷ []) = is_return s.word
ends_in_return (s ∷ t ∷ statements) = ends_in_return (t ∷ statements)

abbrev pub exit_if : Bool → ℕ → Exit
exit_if true next = Leaves
exit_if false next = Next next

pub record IsBlock (code : Code) (sides : List Side) (b : Block) : Type 0 where
  pub filled : IsFilled b.statements
  pub placed : AllByRecursion (IsPlaced code sides b) b.statements

-- ---- neighbours

-- a block ends where the side changes, or the method
abbrev pub AreApart : Block → Block → Type 0
AreApart a b = a.method ≡ b.method → a.side ≡ b.side → ⊥

-- each block, from a number on, leads to the next, or returns
abbrev pub AreInRow : ℕ → List Block → Type 0
AreInRow n [] = Unit {0}
AreInRow n (b ∷ []) = b.exit ≡ exit_if (ends_in_return b.statements) (n + 1)
AreInRow n (b ∷ c ∷ blocks) = (b.exit ≡ exit_if (ends_in_return b.statements) (n + 1)) × AreApart b c × AreInRow (n + 1) (c ∷ blocks)

-- ---- the first block of each method

abbrev pub first_of : ℕ → ℕ → List Block → ℕ
first_of m n [] = 0
first_of m n (b ∷ blocks) = if b.method == m then n else first_of m (n + 1) blocks

abbrev pub firsts_from : ℕ → List Method → List Block → List ℕ
firsts_from m [] blocks = []
firsts_from m (method ∷ methods) blocks = first_of m 1 blocks ∷ firsts_from (m + 1) methods blocks

-- ---- all blocks

pub record AreBlocks (code : Code) (sides : List Side) (blocks : Blocks) : Type 0 where
  -- the statements of the code, in order
  pub whole : flat_map block_lines blocks.blocks ≡ lines_from 1 code.methods
  pub each : AllByRecursion (IsBlock code sides) blocks.blocks
  pub in_row : AreInRow 1 blocks.blocks
  pub firsts : blocks.firsts ≡ firsts_from 1 code.methods blocks.blocks
