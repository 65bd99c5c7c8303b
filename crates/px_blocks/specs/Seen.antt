-- What the cutting code holds, as the cutter sees it.
use Rattle.std.specs.Prelude.{◌≡◌, suc, ℕ, List, [], ◌∷◌, reverse}
use Rattle.px_blocks.specs.declared.side.Side.{Side}
use Rattle.px_normal.specs.declared.word.Operand.{Operand}
use Rattle.px_normal.specs.declared.word.Word.{Word}
use Rattle.px_blocks.specs.declared.block.Deed.TheVariants.{Tests}
use Rattle.px_blocks.specs.declared.block.Exit.TheVariants.{Branch}
use Rattle.px_normal.specs.Words.{is_return}
use Rattle.px_normal.specs.declared.method.Method.{Method}
use Rattle.px_normal.specs.declared.method.Tree.{Tree}
use Rattle.px_blocks.specs.declared.block.Block.{Block}
use Rattle.px_blocks.specs.Rules.{side_of, statement_of, Placed, Place, Anew, In, From}
use Rattle.px_blocks.specs.declared.pending.Pending.{Pending}
use Rattle.px_blocks.specs.Cutter.{body_shape, back_all, left_before, left_open, made_in, after_all, closing, cuts_of, Left, Cut, Shape, Closed, joined, made_after, Kind, Plain, Operation, CallsMethod, kind_of}

abbrev pub after_kind : Side → Word → Shape → Kind → Shape
after_kind side word shape Plain = joined side (is_return word) shape
after_kind side word shape Operation = Closed (made_after side shape)
after_kind side word shape (CallsMethod method) = Closed (made_after side shape)

abbrev pub after_word : Side → Word → Shape → Shape
after_word side word shape = after_kind side word shape (kind_of word)

abbrev pub seen : Pending → Left
seen p = record { rest = reverse p.rest; exit = p.exit; to = p.to; later = reverse p.later }

-- the shape before each tree
abbrev pub shapes_of : List Cut → Shape → List Shape
shapes_of [] s = []
shapes_of (x ∷ xs) s = s ∷ shapes_of xs (x.after s)

-- what a loop is laid with, from what is open before it and left behind it
pub record IsReady (P : Placed) (node : ℕ) (first body : List Tree) (shape : Shape) (left : Pending) (made made1 start to : ℕ) (at_test : Shape) (at_end : Pending) : Type 0 where
  pub made_is : made ≡ made_in shape
  pub made1_is : made1 ≡ made_after (side_of P.sides node) at_test
  pub start_is : start ≡ suc made
  pub to_is : to ≡ left.to
  pub test_is : at_test ≡ after_all (cuts_of P first) (Closed made)
  pub end_is : seen at_end ≡ closing (after_all (cuts_of P body) (Closed made1)) start (reverse left.later)

-- what is left behind the place before a loop's test
pub record IsTested (P : Placed) (method node : ℕ) (test : Operand) (at_test : Shape) (to : ℕ) (inner whole : Pending) : Type 0 where
  pub tested_is : seen whole ≡ left_before method (side_of P.sides node) (statement_of P node (Tests test)) at_test (left_open [] (Branch inner.to to) (reverse inner.later))

-- what is left before the test of a loop, of what is open before the loop and left behind it
abbrev pub loop_end : Placed → List ℕ → (method node : ℕ) → Operand → (first body : List Tree) → Shape → Left → Left
loop_end P firsts method node test first body shape l =
    let at_test = after_all (cuts_of P first) (Closed (made_in shape)) in
    let made1 = made_after (side_of P.sides node) at_test in
    let inner = back_all (cuts_of P body) firsts method (Closed made1) (closing (after_all (cuts_of P body) (Closed made1)) (suc (made_in shape)) l.later) in
    left_before method (side_of P.sides node) (statement_of P node (Tests test)) at_test (left_open [] (Branch inner.to l.to) inner.later)

-- The trees of a method lie in blocks by the rules, from its first block on, before the blocks of the methods after it.
pub record LiesBefore (P : Placed) (firsts : List ℕ) (method made : ℕ) (body : List Tree) (first : ℕ) (blocks after : List Block) : Type 0 where
  pub out : Place
  pub made_then : ℕ
  pub lies : In (record { placed = P; firsts = firsts }) method (Anew made first blocks) body out
  pub ends : From out made_then 0 after

-- ---- methods

-- how many blocks were begun before each method
abbrev pub mades_of : Placed → ℕ → List Method → List ℕ
mades_of P made [] = []
mades_of P made (m ∷ ms) = made ∷ mades_of P (made_in (body_shape P made m)) ms

-- the blocks of a method, before those of the methods after it
abbrev pub blocks_before : Placed → List ℕ → (m made : ℕ) → List Tree → List Block → List Block
blocks_before P firsts m made body later = (back_all (cuts_of P body) firsts m (Closed made) (closing (after_all (cuts_of P body) (Closed made)) 0 later)).later

-- the blocks of methods, before those that are there
abbrev pub blocks_with : Placed → List ℕ → (m made : ℕ) → List Method → List Block → List Block
blocks_with P firsts m made [] later = later
blocks_with P firsts m made (x ∷ xs) later = blocks_before P firsts m made x.body (blocks_with P firsts (suc m) (made_in (body_shape P made x)) xs later)
