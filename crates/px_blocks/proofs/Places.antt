-- Places lie in the list of all blocks.
use Rattle.std.proofs.Common.{◌≡◌, ℕ, zero, suc, Bool, false, List, [], ◌∷◌, drop, Option, Some, None, slice_get, refl, ◌∙◌}
use Rattle.px_blocks.specs.declared.side.Side.{Side}
use Rattle.px_normal.specs.declared.method.Tree.{Tree}
use Rattle.px_blocks.specs.declared.block.Statement.{Statement}
use Rattle.px_blocks.specs.declared.block.Block.{Block}
use Rattle.px_blocks.specs.declared.block.Exit.{Exit}
use Rattle.px_blocks.specs.Machine.{block_at, last_or, onward}
use Rattle.px_blocks.specs.Rules.{Cutting, Place, Amid, Anew, exit_to, From, amid, anew, block_of, side_of, is_return_deed, Joins, stays as joins_stays, begins, In, nothing, stays, asks, calls, branches, turns}

pub onward_to : (n : ℕ) → onward (exit_to n) ≡ n
onward_to zero = refl
onward_to (suc n) = refl

pub at_drop : (blocks later : List Block) (n : ℕ) (b : Block) → b ∷ later ≡ drop n blocks → (slice_get blocks n ≡ Some b) × (later ≡ drop (suc n) blocks)
at_drop [] later zero b e = cc
at_drop [] later (suc n) b e = cc
at_drop (c ∷ blocks) later zero b e = (cc, cc)
at_drop (c ∷ blocks) later (suc n) b e = at_drop blocks later n b e

-- block `made` of method m is open at a side, and these statements of it are left behind `prior`
pub record IsOpen (blocks : List Block) (m made : ℕ) (side : Side) (prior : Option Statement) (rest : List Statement) (exit : Exit) (later : List Block) : Type 0 where
  pub block : Block
  pub is : block_at blocks made ≡ Some block
  pub method_is : block.method ≡ m
  pub side_is : block.side ≡ side
  pub exit_is : block.exit ≡ exit
  pub last_is : last_or prior rest ≡ last_or None block.statements
  pub later_is : later ≡ drop made blocks

abbrev pub Sits : List Block → ℕ → Place → Type 0
Sits blocks m (Amid made side over rest exit later) = (prior : Option Statement) × IsOpen blocks m made side prior rest exit later
Sits blocks m (Anew made to later) = later ≡ drop made blocks

-- control comes here: no return was just before
abbrev pub IsLive : Place → Type 0
IsLive (Amid made side over rest exit later) = over ≡ false
IsLive (Anew made to later) = Unit {0}

-- a statement stands in a block of method m at its side, before the rest of it
pub record Stands (blocks : List Block) (c : Cutting) (m made : ℕ) (s : Statement) (rest : List Statement) (exit : Exit) : Type 0 where
  pub block : Block
  pub is : block_at blocks made ≡ Some block
  pub method_is : block.method ≡ m
  pub side_is : block.side ≡ side_of c.placed.sides s.node
  pub exit_is : block.exit ≡ exit
  pub last_is : last_or (Some s) rest ≡ last_or None block.statements

-- a place behind a statement
abbrev pub SitsBehind : List Block → Cutting → ℕ → Statement → Place → Type 0
SitsBehind blocks c m s (Amid made side over rest exit later) = (over ≡ is_return_deed s.deed) × (side ≡ side_of c.placed.sides s.node) × IsOpen blocks m made side (Some s) rest exit later
SitsBehind blocks c m s (Anew made to later) = ⊥

pub stands : (blocks : List Block) (c : Cutting) (m made : ℕ) (side : Side) (over : Bool) (s : Statement) (rest : List Statement) (exit : Exit) (later : List Block) → SitsBehind blocks c m s (Amid made side over rest exit later) → Stands blocks c m made s rest exit
stands blocks c m made side over s rest exit later i = record { block = i.2.block; is = i.2.is; method_is = i.2.method_is; side_is = i.2.side_is ∙ i.1; exit_is = i.2.exit_is; last_is = i.2.last_is }

module _ (blocks : List Block) (c : Cutting) (m : ℕ) where
  pub from_sits : (p : Place) (made to : ℕ) (later : List Block) → From p made to later → Sits blocks m p → later ≡ drop made blocks
  from_sits p made to later (amid e) s = s.1.later_is
  from_sits p made to later anew s = s

  pub joins_sits : (s : Statement) (p q : Place) → Joins c m s p q → Sits blocks m p → SitsBehind blocks c m s q
  joins_sits s p q (joins_stays e) i = (refl, e, record { block = i.1.block; is = i.1.is; method_is = i.1.method_is; side_is = i.1.side_is; exit_is = i.1.exit_is; last_is = i.1.last_is; later_is = i.1.later_is })
  joins_sits s p q (begins {made = made} {rest = rest} {exit = exit} {later = later} away f) i =
      let b : Block = block_of m (side_of c.placed.sides s.node) (s ∷ rest) exit in
      let there = at_drop blocks later made b (from_sits p made (suc made) (b ∷ later) f i) in
      (refl, refl, record { block = b; is = there.0; method_is = refl; side_is = refl; exit_is = refl; last_is = refl; later_is = there.1 })

  pub sits_behind : (s : Statement) (q : Place) → SitsBehind blocks c m s q → Sits blocks m q
  sits_behind s (Amid made side over rest exit later) i = (Some s, i.2)
  sits_behind s (Anew made to later) i = absurd i

  pub sits_after : (s : Statement) (p q : Place) → Joins c m s p q → Sits blocks m p → Sits blocks m q
  sits_after s p q j i = sits_behind s q (joins_sits s p q j i)

  pub sits_on : (p q : Place) (ts : List Tree) → In c m p ts q → Sits blocks m p → Sits blocks m q
  sits_on p q ts nothing i = i
  sits_on p q ts (stays x y j rest) i = sits_on _ q _ rest (sits_after _ p _ j i)
  sits_on p q ts (asks x y j rest) i = sits_on _ q _ rest (joins_sits _ p _ j i).2.later_is
  sits_on p q ts (calls j rest) i = sits_on _ q _ rest (joins_sits _ p _ j i).2.later_is
  sits_on p q ts (branches j yes' fy no' fn rest) i =
      let i1 = from_sits _ _ _ _ fy (sits_on _ _ _ yes' (joins_sits _ p _ j i).2.later_is) in
      let i2 = from_sits _ _ _ _ fn (sits_on _ _ _ no' i1) in
      sits_on _ q _ rest i2
  sits_on p q ts (turns f first j body fb rest) i =
      let i1 = joins_sits _ _ _ j (sits_on _ _ _ first (from_sits p _ _ _ f i)) in
      let i2 = from_sits _ _ _ _ fb (sits_on _ _ _ body i1.2.later_is) in
      sits_on _ q _ rest i2
