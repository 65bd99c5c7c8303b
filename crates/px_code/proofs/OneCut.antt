-- Code is cut into blocks in one way.
use Rattle.std.proofs.Common.{◌≡◌, ℕ, ◌+◌, List, [], ◌∷◌, ◌++◌, map, Option, Some, None, refl, sym, ap, ◌∙◌, subst}
use Rattle.std.specs.List.{AllByRecursion, flat_map}
use Rattle.px_code.specs.declared.side.Side.{Side}
use Rattle.px_code.specs.declared.word.Operand.{Operand}
use Rattle.px_code.specs.declared.word.Word.{Word}
use Rattle.px_code.specs.declared.word.Word.TheVariants as w
use Rattle.px_code.specs.declared.code.Code.{Code}
use Rattle.px_code.specs.declared.block.Send.{Send}
use Rattle.px_code.specs.declared.block.Statement.{Statement}
use Rattle.px_code.specs.declared.block.Block.{Block}
use Rattle.px_code.specs.declared.block.Blocks.{Blocks}
use Rattle.px_code.specs.declared.block.Exit.{Exit}
use Rattle.px_code.specs.Places.{side_of}
use Rattle.px_code.specs.Sends.{IsSendOf, IsRightSend}
use Rattle.px_code.specs.Cut.{Line, statement_line, block_lines, IsFilled, IsPlaced, IsBlock, ends_in_return, exit_if, AreInRow, firsts_from}
use Rattle.px_code.specs.OneCut.{CutIsOne}

-- the lines of blocks
abbrev pub lines_of : List Block → List Line
lines_of blocks = flat_map block_lines blocks

-- ---- records by their fields

abbrev send_of : Side → Operand → Send
send_of home object = record { home = home; object = object }

abbrev statement_of : ℕ → Word → Option Send → Statement
statement_of node word send = record { node = node; word = word; send = send }

abbrev block_of : ℕ → Side → List Statement → Exit → Block
block_of m side statements exit = record { method = m; side = side; statements = statements; exit = exit }

abbrev blocks_of : List Block → List ℕ → Blocks
blocks_of blocks firsts = record { blocks = blocks; firsts = firsts }

module _ (code : Code) (sides : List Side) where
  -- ---- sends

  same_send : (word : Word) (a b : Send) → IsSendOf code sides word a → IsSendOf code sides word b → a ≡ b
  same_send (w.Put of class field value) a b is_a is_b =
      ap (λ home. send_of home a.object) (is_a.0 ∙ sym is_b.0) ∙ ap (send_of b.home) (is_a.1 ∙ sym is_b.1)
  same_send _ a b is_a is_b = absurd is_a

  pub one_send : (m node : ℕ) (word : Word) (a b : Option Send) → IsRightSend code sides m node word a → IsRightSend code sides m node word b → a ≡ b
  one_send m node word None None right_a right_b = refl
  one_send m node word None (Some b) right_a right_b = absurd (right_a right_b.0)
  one_send m node word (Some a) None right_a right_b = absurd (right_b right_a.0)
  one_send m node word (Some a) (Some b) right_a right_b = ap (λ (s : Send). Some s) (same_send word a b right_a.1 right_b.1)

  -- ---- statements

  -- statements of one method at one side, as they stand in a block
  abbrev pub ArePlaced : ℕ → Side → List Statement → Type 0
  ArePlaced m side statements = AllByRecursion (λ (s : Statement). (side_of sides s.node ≡ side) × IsRightSend code sides m s.node s.word s.send) statements

  one_statement : (m : ℕ) (s t : Statement) → statement_line m s ≡ statement_line m t → IsRightSend code sides m s.node s.word s.send → IsRightSend code sides m t.node t.word t.send → s ≡ t
  one_statement m s t same right_s right_t =
      let node : s.node ≡ t.node = ap (λ (l : Line). l.node) same in
      let word : s.word ≡ t.word = ap (λ (l : Line). l.word) same in
      let moved : IsRightSend code sides m s.node s.word t.send =
      subst (λ n. IsRightSend code sides m n s.word t.send) (sym node) (subst (λ (v : Word). IsRightSend code sides m t.node v t.send) (sym word) right_t) in
      let send : s.send ≡ t.send = one_send m s.node s.word s.send t.send right_s moved in
      ap (λ n. statement_of n s.word s.send) node ∙ ap (λ v. statement_of t.node v s.send) word ∙ ap (statement_of t.node t.word) send

  placed_of : (b : Block) (statements : List Statement) → AllByRecursion (IsPlaced code sides b) statements → ArePlaced b.method b.side statements
  placed_of b [] all = tt
  placed_of b (s ∷ statements) all = ((all.0.side, all.0.send), placed_of b statements all.1)

  -- a block begins with the line of its method and side
  first_line : (b : Block) (statements : List Statement) (m : ℕ) (t : Statement) (rest more : List Line) → IsFilled statements → AllByRecursion (IsPlaced code sides b) statements → map (statement_line b.method) statements ++ rest ≡ statement_line m t ∷ more → (m ≡ b.method) × (side_of sides t.node ≡ b.side)
  first_line b [] m t rest more filled placed same = absurd filled
  first_line b (s ∷ statements) m t rest more filled placed same =
      let line : statement_line b.method s ≡ statement_line m t = cc in
      (sym (ap (λ (l : Line). l.method) line), sym (ap (λ (l : Line). side_of sides l.node) line) ∙ placed.0.side)

  -- ---- blocks

  abbrev pub AreEach : List Block → Type 0
  AreEach blocks = AllByRecursion (IsBlock code sides) blocks

  -- blocks that don't go on with statements of the method at the side
  abbrev pub LeadOff : ℕ → Side → List Block → Type 0
  LeadOff m side [] = Unit {0}
  LeadOff m side (b ∷ blocks) = m ≡ b.method → side ≡ b.side → ⊥

  -- so where those end, no further one stands
  ended : (m : ℕ) (side : Side) (blocks : List Block) (t : Statement) (more : List Line) → AreEach blocks → LeadOff m side blocks → side_of sides t.node ≡ side → lines_of blocks ≡ statement_line m t ∷ more → ⊥
  ended m side [] t more each off at same = cc
  ended m side (b ∷ blocks) t more each off at same =
      let first = first_line b b.statements m t (lines_of blocks) more each.0.filled each.0.placed same in
      off first.0 (sym at ∙ first.1)

  -- the same statements, and the same lines after them
  same_front : (m : ℕ) (side : Side) (ss ts : List Statement) (xs ys : List Block) → ArePlaced m side ss → ArePlaced m side ts → AreEach xs → AreEach ys → LeadOff m side xs → LeadOff m side ys → map (statement_line m) ss ++ lines_of xs ≡ map (statement_line m) ts ++ lines_of ys → (ss ≡ ts) × (lines_of xs ≡ lines_of ys)
  same_front m side [] [] xs ys at_ss at_ts each_x each_y off_x off_y same = (refl, same)
  same_front m side [] (t ∷ ts) xs ys at_ss at_ts each_x each_y off_x off_y same = absurd (ended m side xs t (map (statement_line m) ts ++ lines_of ys) each_x off_x at_ts.0.0 same)
  same_front m side (s ∷ ss) [] xs ys at_ss at_ts each_x each_y off_x off_y same = absurd (ended m side ys s (map (statement_line m) ss ++ lines_of xs) each_y off_y at_ss.0.0 (sym same))
  same_front m side (s ∷ ss) (t ∷ ts) xs ys at_ss at_ts each_x each_y off_x off_y same =
      let line : statement_line m s ≡ statement_line m t = cc in
      let tail : map (statement_line m) ss ++ lines_of xs ≡ map (statement_line m) ts ++ lines_of ys = cc in
      let rest = same_front m side ss ts xs ys at_ss.1 at_ts.1 each_x each_y off_x off_y tail in
      let head : s ≡ t = one_statement m s t line at_ss.0.1 at_ts.0.1 in
      (ap (λ (u : Statement). u ∷ ss) head ∙ ap (λ (us : List Statement). t ∷ us) rest.0, rest.1)

  -- a block and those after it, in a row
  row_exit : (n : ℕ) (b : Block) (blocks : List Block) → AreInRow n (b ∷ blocks) → b.exit ≡ exit_if (ends_in_return b.statements) (n + 1)
  row_exit n b [] row = row
  row_exit n b (c ∷ blocks) row = row.0

  row_apart : (n : ℕ) (b : Block) (blocks : List Block) → AreInRow n (b ∷ blocks) → LeadOff b.method b.side blocks
  row_apart n b [] row = tt
  row_apart n b (c ∷ blocks) row = row.1

  row_rest : (n : ℕ) (b : Block) (blocks : List Block) → AreInRow n (b ∷ blocks) → AreInRow (n + 1) blocks
  row_rest n b [] row = tt
  row_rest n b (c ∷ blocks) row = row.2

  -- a block has a line
  has_line : (b : Block) (statements : List Statement) (rest : List Line) → IsFilled statements → map (statement_line b.method) statements ++ rest ≡ [] → ⊥
  has_line b [] rest filled none = filled
  has_line b (s ∷ statements) rest filled none = cc

  same_begin : (x y : Block) (ts : List Statement) (xs ys : List Line) → IsBlock code sides x → IsFilled ts → AllByRecursion (IsPlaced code sides y) ts → block_lines x ++ xs ≡ map (statement_line y.method) ts ++ ys → (y.method ≡ x.method) × (y.side ≡ x.side)
  same_begin x y [] xs ys is_x filled placed same = absurd filled
  same_begin x y (t ∷ ts) xs ys is_x filled placed same =
      let first = first_line x x.statements y.method t xs (map (statement_line y.method) ts ++ ys) is_x.filled is_x.placed same in
      (first.0, sym placed.0.side ∙ first.1)

  same_block : (x y : Block) → x.method ≡ y.method → x.side ≡ y.side → x.statements ≡ y.statements → x.exit ≡ y.exit → x ≡ y
  same_block x y method side statements exit =
      ap (λ m. block_of m x.side x.statements x.exit) method ∙ ap (λ s. block_of y.method s x.statements x.exit) side ∙ ap (λ ss. block_of y.method y.side ss x.exit) statements ∙ ap (block_of y.method y.side y.statements) exit

  pub same_blocks : (n : ℕ) (xs ys : List Block) → AreEach xs → AreEach ys → AreInRow n xs → AreInRow n ys → lines_of xs ≡ lines_of ys → xs ≡ ys
  same_blocks n [] [] each_x each_y row_x row_y same = refl
  same_blocks n [] (y ∷ ys) each_x each_y row_x row_y same = absurd (has_line y y.statements (lines_of ys) each_y.0.filled (sym same))
  same_blocks n (x ∷ xs) [] each_x each_y row_x row_y same = absurd (has_line x x.statements (lines_of xs) each_x.0.filled same)
  same_blocks n (x ∷ xs) (y ∷ ys) each_x each_y row_x row_y same =
      let begin = same_begin x y y.statements (lines_of xs) (lines_of ys) each_x.0 each_y.0.filled each_y.0.placed same in
      let method : x.method ≡ y.method = sym begin.0 in
      let side : x.side ≡ y.side = sym begin.1 in
      let at_y : ArePlaced x.method x.side y.statements = subst (λ m. ArePlaced m x.side y.statements) (sym method) (subst (λ (s : Side). ArePlaced y.method s y.statements) (sym side) (placed_of y y.statements each_y.0.placed)) in
      let off_y : LeadOff x.method x.side ys = subst (λ m. LeadOff m x.side ys) (sym method) (subst (λ (s : Side). LeadOff y.method s ys) (sym side) (row_apart n y ys row_y)) in
      let lines : block_lines x ++ lines_of xs ≡ map (statement_line x.method) y.statements ++ lines_of ys = subst (λ m. block_lines x ++ lines_of xs ≡ map (statement_line m) y.statements ++ lines_of ys) (sym method) same in
      let front = same_front x.method x.side x.statements y.statements xs ys (placed_of x x.statements each_x.0.placed) at_y each_x.1 each_y.1 (row_apart n x xs row_x) off_y lines in
      let exit : x.exit ≡ y.exit = row_exit n x xs row_x ∙ ap (λ (ss : List Statement). exit_if (ends_in_return ss) (n + 1)) front.0 ∙ sym (row_exit n y ys row_y) in
      let rest : xs ≡ ys = same_blocks (n + 1) xs ys each_x.1 each_y.1 (row_rest n x xs row_x) (row_rest n y ys row_y) front.1 in
      ap (λ (b : Block). b ∷ xs) (same_block x y method side front.0 exit) ∙ ap (λ (bs : List Block). y ∷ bs) rest

pub one_cut : CutIsOne
one_cut code sides xs ys are_x are_y =
    let blocks : xs.blocks ≡ ys.blocks = same_blocks code sides 1 xs.blocks ys.blocks are_x.each are_y.each are_x.in_row are_y.in_row (are_x.whole ∙ sym are_y.whole) in
    let firsts : xs.firsts ≡ ys.firsts = are_x.firsts ∙ ap (λ (bs : List Block). firsts_from 1 code.methods bs) blocks ∙ sym are_y.firsts in
    ap (λ bs. blocks_of bs xs.firsts) blocks ∙ ap (blocks_of ys.blocks) firsts
