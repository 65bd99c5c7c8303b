-- Where sends stand, and what they name.
use Rattle.std.specs.Prelude.{◌≡◌, ℕ, true, List, Option, Some, None, is_some, length}
use Rattle.px_normal.specs.declared.word.Operand.{Operand}
use Rattle.px_normal.specs.declared.word.Operand.TheVariants.{Slot}
use Rattle.px_normal.specs.declared.word.Word.{Word}
use Rattle.px_normal.specs.declared.word.Word.TheVariants as w
use Rattle.px_normal.specs.declared.code.Code.{Code}
use Rattle.px_normal.specs.First.{numbered}
use Rattle.px_flow_points.specs.declared.part.Part.{Part}
use Rattle.px_flow_points.specs.Statements.{HasStatement}
use Rattle.px_flow_points.specs.ByNode.{WritesAt}
use Rattle.px_blocks.specs.declared.side.Side.{Side}
use Rattle.px_blocks.specs.declared.side.Side.TheVariants.{App, Db}
use Rattle.px_blocks.specs.declared.block.Send.{Send}
use Rattle.px_blocks.specs.declared.block.SendKind.{SendKind}
use Rattle.px_blocks.specs.declared.block.SendKind.TheVariants as kind
use Rattle.px_blocks.specs.declared.placed.Placed.{Placed}
use Rattle.px_blocks.specs.Sides.{other}
use Rattle.px_blocks.specs.Rules.{side_of, send_of}
use Rattle.px_sync.specs.Homes.{field_home}
use Rattle.px_sync.specs.Keeps.{Keeps}

abbrev pub kind_at : Side → SendKind
kind_at App = kind.App
kind_at Db = kind.Db

abbrev pub send : SendKind → Operand → Option Send
send k a = Some (record { kind = k; object = a })

-- The send after a word that writes: after a `put` it names the cells of the object that are at home where the field is, after another write all cells. The object of a query is the one in its slot.
abbrev pub send_after : Code → List Side → Word → Option Send
send_after code sides (w.Put of class field a) = send (kind_at (field_home code sides class field)) of
send_after code sides (w.Store of index a) = send kind.Native of
send_after code sides (w.Next to of) = send kind.Native of
send_after code sides (w.Query to statement site params) = send kind.Native (Slot to)
send_after code sides _ = None

-- the statement of the node may write what the other side keeps
pub record NeedsSend (code : Code) (sides : List Side) (node : ℕ) : Type 0 where
  pub site : ℕ
  pub part : Part
  pub writes : WritesAt code node site part
  pub kept : Keeps code sides (other (side_of sides node)) site part

-- A send follows a statement exactly where it may write what the other side keeps.
abbrev pub IsRightSend : Code → List Side → ℕ → Word → Option Send → Type 0
IsRightSend code sides node word None = NeedsSend code sides node → ⊥
IsRightSend code sides node word (Some s) = NeedsSend code sides node × (send_after code sides word ≡ Some s)

-- the node is there, and no two statements have it
pub record IsOwn (code : Code) (node : ℕ) : Type 0 where
  pub there : is_some (numbered code.nodes node) ≡ true
  pub one : (m k : ℕ) (v u : Word) → HasStatement code m node v → HasStatement code k node u → v ≡ u

-- the sends of code at a placement
pub record HasSends (code : Code) (sides : List Side) (placed : Placed) : Type 0 where
  pub sides_are : placed.sides ≡ sides
  pub size : length placed.sends ≡ length code.nodes
  pub right : (m node : ℕ) (word : Word) → HasStatement code m node word → IsOwn code node → IsRightSend code sides node word (send_of placed.sends node)
  pub no_more : (node : ℕ) → ((m : ℕ) (word : Word) → HasStatement code m node word → ⊥) → send_of placed.sends node ≡ None
