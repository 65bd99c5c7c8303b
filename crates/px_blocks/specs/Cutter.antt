-- One way to cut code into blocks: what is open after each tree, from the front, and then the blocks, from the back.
use Rattle.std.specs.Prelude.{ℕ, suc, Bool, true, false, List, [], ◌∷◌, map}
use Rattle.px_blocks.specs.declared.side.Side.{Side}
use Rattle.px_blocks.specs.declared.side.Side.TheVariants.{App, Db}
use Rattle.px_normal.specs.declared.word.Word.{Word}
use Rattle.px_normal.specs.declared.word.Word.TheVariants as w
use Rattle.px_normal.specs.declared.method.Method.{Method}
use Rattle.px_normal.specs.declared.method.Tree.{Tree, Tree-F, fold-Tree}
use Rattle.px_normal.specs.declared.method.Tree.TheOpen.{Tree-F as t}
use Rattle.px_normal.specs.declared.code.Code.{Code}
use Rattle.px_blocks.specs.declared.block.Deed.TheVariants as deed
use Rattle.px_blocks.specs.declared.block.Statement.{Statement}
use Rattle.px_blocks.specs.declared.block.Block.{Block}
use Rattle.px_blocks.specs.declared.block.Blocks.{Blocks}
use Rattle.px_blocks.specs.declared.block.Exit.{Exit}
use Rattle.px_blocks.specs.declared.block.Exit.TheVariants.{Return as Leaves, Branch, Call}
use Rattle.px_normal.specs.Words.{is_return}
use Rattle.px_blocks.specs.Rules.{Placed, side_of, statement_of, block_of, exit_to, exit_if, first_in}
pub use Rattle.px_blocks.specs.declared.shape.Shape.{Shape}
pub use Rattle.px_blocks.specs.declared.shape.Shape.TheVariants.{Open, Closed}

abbrev pub same_side : Side → Side → Bool
same_side App App = true
same_side Db Db = true
same_side _ _ = false

-- A shape is what is known of a place from the front.

-- what is known of it from the back: what is left of the open block, or the block to which control comes, and the blocks after
pub record Left : Type 0 where
  pub rest : List Statement
  pub exit : Exit
  pub to : ℕ
  pub later : List Block

abbrev pub left_open : List Statement → Exit → List Block → Left
left_open rest exit later = record { rest = rest; exit = exit; to = 0; later = later }

abbrev pub left_closed : ℕ → List Block → Left
left_closed to later = record { rest = []; exit = Leaves; to = to; later = later }

abbrev pub made_in : Shape → ℕ
made_in (Open made side over) = made
made_in (Closed made) = made

-- ---- one statement

abbrev pub made_if : Bool → ℕ → ℕ
made_if true made = made
made_if false made = suc made

-- how many blocks were begun behind a statement at a side
abbrev pub made_after : Side → Shape → ℕ
made_after side (Open made here before) = made_if (same_side here side) made
made_after side (Closed made) = suc made

abbrev pub joined : Side → Bool → Shape → Shape
joined side over p = Open (made_after side p) side over

abbrev pub left_if : Bool → ℕ → ℕ → Side → Bool → Statement → Left → Left
left_if true m made side before s l = left_open (s ∷ l.rest) l.exit l.later
left_if false m made side before s l = left_open [] (exit_if before (suc made)) (block_of m side (s ∷ l.rest) l.exit ∷ l.later)

abbrev pub left_before : ℕ → Side → Statement → Shape → Left → Left
left_before m side s (Open made here before) l = left_if (same_side here side) m made side before s l
left_before m side s (Closed made) l = left_closed (suc made) (block_of m side (s ∷ l.rest) l.exit ∷ l.later)

-- ---- trees

pub record Cut : Type 0 where
  pub after : Shape → Shape
  -- by the first blocks of methods, the number of the method, and the shape before
  pub back : List ℕ → ℕ → Shape → Left → Left

abbrev pub after_all : List Cut → Shape → Shape
after_all [] s = s
after_all (x ∷ xs) s = after_all xs (x.after s)

abbrev pub back_all : List Cut → List ℕ → ℕ → Shape → Left → Left
back_all [] firsts m s l = l
back_all (x ∷ xs) firsts m s l = x.back firsts m s (back_all xs firsts m (x.after s) l)

-- the end of a list, at which control goes to a block
abbrev pub closing : Shape → ℕ → List Block → Left
closing (Open made side over) to later = left_open [] (exit_if over to) later
closing (Closed made) to later = left_closed to later

pub data Kind : Type 0 where
  Plain : Kind
  Operation : Kind
  CallsMethod : ℕ → Kind

abbrev pub kind_of : Word → Kind
kind_of (w.Call to of method args) = CallsMethod method
kind_of (w.Query to number site params) = Operation
kind_of (w.Update to number params) = Operation
kind_of _ = Plain

-- a statement that ends its block
abbrev pub last_cut : Side → Statement → (List ℕ → ℕ → Exit) → Cut
last_cut side s exit = record {
  after = λ p. Closed (made_after side p);
  back = λ firsts m p l. left_before m side s p (left_open [] (exit firsts l.to) l.later);
}

abbrev pub word_cut : Side → Statement → Bool → Kind → Cut
word_cut side s over Plain = record { after = joined side over; back = λ firsts m p l. left_before m side s p l }
word_cut side s over Operation = last_cut side s (λ firsts to. exit_to to)
word_cut side s over (CallsMethod method) = last_cut side s (λ firsts to. Call (first_in firsts method) to)

abbrev pub if_cut : Side → Statement → List Cut → List Cut → Cut
if_cut side s ys ns = record {
  after = λ p.
      let made = made_after side p in
      let made1 = made_in (after_all ys (Closed made)) in
      Closed (made_in (after_all ns (Closed made1)));
  back = λ firsts m p l.
      let made = made_after side p in
      let made1 = made_in (after_all ys (Closed made)) in
      let other = back_all ns firsts m (Closed made1) (closing (after_all ns (Closed made1)) l.to l.later) in
      let branch = back_all ys firsts m (Closed made) (closing (after_all ys (Closed made)) l.to other.later) in
      left_before m side s p (left_open [] (Branch branch.to other.to) branch.later);
}

abbrev pub loop_cut : Side → Statement → List Cut → List Cut → Cut
loop_cut side s first body = record {
  after = λ p.
      let tested = after_all first (Closed (made_in p)) in
      let made1 = made_after side tested in
      Closed (made_in (after_all body (Closed made1)));
  back = λ firsts m p l.
      let made = made_in p in
      let tested = after_all first (Closed made) in
      let made1 = made_after side tested in
      let inner = back_all body firsts m (Closed made1) (closing (after_all body (Closed made1)) (suc made) l.later) in
      let before = back_all first firsts m (Closed made) (left_before m side s tested (left_open [] (Branch inner.to l.to) inner.later)) in
      closing p (suc made) before.later;
}

abbrev pub cut_step : Placed → Tree-F Cut → Cut
cut_step P (t.Do node word) = word_cut (side_of P.sides node) (statement_of P node (deed.Does word)) (is_return word) (kind_of word)
cut_step P (t.If node a yes' no') = if_cut (side_of P.sides node) (statement_of P node (deed.Chooses a)) yes' no'
cut_step P (t.Loop first node a body) = loop_cut (side_of P.sides node) (statement_of P node (deed.Tests a)) first body

unfoldable pub cut_of : Placed → Tree → Cut
cut_of P = fold-Tree Cut (cut_step P)

abbrev pub cuts_of : Placed → List Tree → List Cut
cuts_of P ts = map (cut_of P) ts

-- ---- methods

abbrev pub body_shape : Placed → ℕ → Method → Shape
body_shape P made method = after_all (cuts_of P method.body) (Closed made)

abbrev pub first_block : ℕ → List Tree → ℕ
first_block made [] = 0
first_block made (t' ∷ ts) = suc made

abbrev pub firsts_from : Placed → ℕ → List Method → List ℕ
firsts_from P made [] = []
firsts_from P made (method ∷ methods) = first_block made method.body ∷ firsts_from P (made_in (body_shape P made method)) methods

abbrev pub blocks_from : Placed → List ℕ → (m made : ℕ) → List Method → List Block
blocks_from P firsts m made [] = []
blocks_from P firsts m made (method ∷ methods) =
    (back_all (cuts_of P method.body) firsts m (Closed made)
    (closing (body_shape P made method) 0 (blocks_from P firsts (suc m) (made_in (body_shape P made method)) methods))).later

unfoldable pub cut : Code → Placed → Blocks
cut code P = record { firsts = firsts_from P 0 code.methods; blocks = blocks_from P (firsts_from P 0 code.methods) 1 0 code.methods }
