-- The rules by which code is cut into blocks.
use Rattle.std.specs.Prelude.{◌≡◌, ℕ, zero, suc, Bool, true, false, List, [], ◌∷◌, Option, Some, None, unwrap_or}
use Rattle.px_blocks.specs.declared.side.Side.{Side}
use Rattle.px_blocks.specs.declared.side.Side.TheVariants.{App}
use Rattle.px_normal.specs.declared.word.Operand.{Operand}
use Rattle.px_normal.specs.declared.word.Word.{Word}
use Rattle.px_normal.specs.declared.word.Word.TheVariants as w
use Rattle.px_normal.specs.declared.method.Method.{Method}
use Rattle.px_normal.specs.declared.method.Tree.{Tree}
use Rattle.px_normal.specs.declared.method.Tree.TheVariants.{Do, If, Loop}
use Rattle.px_normal.specs.declared.code.Code.{Code}
use Rattle.px_blocks.specs.declared.block.Deed.{Deed}
use Rattle.px_blocks.specs.declared.block.Deed.TheVariants as deed
use Rattle.px_blocks.specs.declared.block.Send.{Send}
use Rattle.px_blocks.specs.declared.block.Statement.{Statement}
use Rattle.px_blocks.specs.declared.block.Block.{Block}
use Rattle.px_blocks.specs.declared.block.Blocks.{Blocks}
pub use Rattle.px_blocks.specs.declared.placed.Placed.{Placed}
use Rattle.px_blocks.specs.declared.block.Exit.{Exit}
use Rattle.px_blocks.specs.declared.block.Exit.TheVariants.{Return as Leaves, Next, Branch, Call}
use Rattle.px_normal.specs.First.{numbered}
use Rattle.px_normal.specs.Words.{is_return}

abbrev pub is_call : Word → Bool
is_call (w.Call to of method args) = true
is_call _ = false

-- a word that asks the tables
abbrev pub is_operation : Word → Bool
is_operation (w.Query to number site params) = true
is_operation (w.Update to number params) = true
is_operation _ = false

-- the side of a node
abbrev pub side_of : List Side → ℕ → Side
side_of sides node = unwrap_or (numbered sides node) App

abbrev pub send_in : Option (Option Send) → Option Send
send_in None = None
send_in (Some send) = send

-- the send that follows the statement of a node
abbrev pub send_of : List (Option Send) → ℕ → Option Send
send_of sends node = send_in (numbered sends node)

-- what the cut of all methods shares: the placement, and the first block of each method
pub record Cutting : Type 0 where
  pub placed : Placed
  pub firsts : List ℕ

abbrev pub statement_of : Placed → ℕ → Deed → Statement
statement_of placed node d = record { node = node; deed = d; send = send_of placed.sends node }

abbrev pub block_of : ℕ → Side → List Statement → Exit → Block
block_of m side statements exit = record { method = m; side = side; statements = statements; exit = exit }

abbrev pub is_return_deed : Deed → Bool
is_return_deed (deed.Does word) = is_return word
is_return_deed _ = false

-- Where a statement may begin. `made` blocks were begun before, and `later` are those that begin after.
pub data Place : Type 0 where
  -- in block `made`, which has statements at a side, of which `rest` are left, and an exit; `over` tells that the last one before was a return
  Amid : (made : ℕ) → Side → (over : Bool) → (rest : List Statement) → Exit → (later : List Block) → Place
  -- where a new block has to begin, at which control comes to block `to`
  Anew : (made to : ℕ) → (later : List Block) → Place

-- block 0 is the end of the method
abbrev pub exit_to : ℕ → Exit
exit_to zero = Leaves
exit_to (suc n) = Next (suc n)

-- behind a return nothing comes next
abbrev pub exit_if : Bool → ℕ → Exit
exit_if true to = Leaves
exit_if false to = exit_to to

-- from a place control goes on to block `to`
pub data From : Place → (made to : ℕ) → (later : List Block) → Type 0 where
  amid : {made to : ℕ} {side : Side} {over : Bool} {exit : Exit} {later : List Block} → exit ≡ exit_if over to → From (Amid made side over [] exit later) made to later
  anew : {made to : ℕ} {later : List Block} → From (Anew made to later) made to later

-- the block that is open is at another side
abbrev pub IsElsewhere : Side → Place → Type 0
IsElsewhere side (Amid made here over rest exit later) = here ≡ side → ⊥
IsElsewhere side (Anew made to later) = Unit {0}

-- a statement joins the open block of its side, or begins a new one
pub data Joins (c : Cutting) (m : ℕ) (s : Statement) : Place → Place → Type 0 where
  stays : {made : ℕ} {side : Side} {over : Bool} {rest : List Statement} {exit : Exit} {later : List Block} → side ≡ side_of c.placed.sides s.node → Joins c m s (Amid made side over (s ∷ rest) exit later) (Amid made side (is_return_deed s.deed) rest exit later)
  begins : {p : Place} {made : ℕ} {rest : List Statement} {exit : Exit} {later : List Block} → IsElsewhere (side_of c.placed.sides s.node) p → From p made (suc made) (block_of m (side_of c.placed.sides s.node) (s ∷ rest) exit ∷ later) → Joins c m s p (Amid (suc made) (side_of c.placed.sides s.node) (is_return_deed s.deed) rest exit later)

abbrev pub first_in : List ℕ → ℕ → ℕ
first_in firsts method = unwrap_or (numbered firsts method) 0

-- The trees of method m lie in blocks between two places.
pub data In (c : Cutting) (m : ℕ) : Place → List Tree → Place → Type 0 where
  nothing : {p : Place} → In c m p [] p
  -- a statement after which its block may go on
  stays : {p q : Place} {made node : ℕ} {side : Side} {over : Bool} {rest : List Statement} {exit : Exit} {later : List Block} {word : Word} {ts : List Tree} →
      is_call word ≡ false → is_operation word ≡ false →
      Joins c m (statement_of c.placed node (deed.Does word)) p (Amid made side over rest exit later) →
      In c m (Amid made side over rest exit later) ts q →
      In c m p (Do node word ∷ ts) q
  -- an operation on tables ends its block
  asks : {p q : Place} {made to node : ℕ} {side : Side} {over : Bool} {exit : Exit} {later : List Block} {word : Word} {ts : List Tree} →
      is_operation word ≡ true → exit ≡ exit_to to →
      Joins c m (statement_of c.placed node (deed.Does word)) p (Amid made side over [] exit later) →
      In c m (Anew made to later) ts q →
      In c m p (Do node word ∷ ts) q
  -- a call too
  calls : {p q : Place} {made back node method : ℕ} {side : Side} {over : Bool} {later : List Block} {to : Option ℕ} {of : Operand} {args : List Operand} {ts : List Tree} →
      Joins c m (statement_of c.placed node (deed.Does (w.Call to of method args))) p (Amid made side over [] (Call (first_in c.firsts method) back) later) →
      In c m (Anew made back later) ts q →
      In c m p (Do node (w.Call to of method args) ∷ ts) q
  -- the branches, and then what both lead to
  branches : {p py pn q : Place} {made made1 made2 yes' no' after node : ℕ} {side : Side} {over : Bool} {later later1 later2 : List Block} {a : Operand} {ys ns ts : List Tree} →
      Joins c m (statement_of c.placed node (deed.Chooses a)) p (Amid made side over [] (Branch yes' no') later) →
      In c m (Anew made yes' later) ys py → From py made1 after later1 →
      In c m (Anew made1 no' later1) ns pn → From pn made2 after later2 →
      In c m (Anew made2 after later2) ts q →
      In c m p (If node a ys ns ∷ ts) q
  -- a new block begins a loop, and the body leads back to it
  turns : {p pf pb q : Place} {made made1 made2 yes' after node : ℕ} {side : Side} {over : Bool} {later later1 later2 : List Block} {a : Operand} {first body ts : List Tree} →
      From p made (suc made) later →
      In c m (Anew made (suc made) later) first pf →
      Joins c m (statement_of c.placed node (deed.Tests a)) pf (Amid made1 side over [] (Branch yes' after) later1) →
      In c m (Anew made1 yes' later1) body pb → From pb made2 (suc made) later2 →
      In c m (Anew made2 after later2) ts q →
      In c m p (Loop first node a body ∷ ts) q

-- methods from number m on, with the first block of each
pub data AreMethods (c : Cutting) : (m made : ℕ) → List Method → (firsts : List ℕ) → List Block → Type 0 where
  none : {m made : ℕ} → AreMethods c m made [] [] []
  one : {m made first made1 : ℕ} {q : Place} {method : Method} {methods : List Method} {firsts : List ℕ} {later later1 : List Block} →
      In c m (Anew made first later) method.body q → From q made1 0 later1 →
      AreMethods c (suc m) made1 methods firsts later1 →
      AreMethods c m made (method ∷ methods) (first ∷ firsts) later

abbrev pub cutting : Placed → Blocks → Cutting
cutting placed blocks = record { placed = placed; firsts = blocks.firsts }

-- the blocks into which code is cut at a placement, with its sends
abbrev pub IsCut : Code → Placed → Blocks → Type 0
IsCut code placed blocks = AreMethods (cutting placed blocks) 1 0 code.methods blocks.firsts blocks.blocks
