-- Which cells a side keeps, and where a send has to stand.
use Rattle.std.specs.Prelude.{◌≡◌, ℕ, List, Option, Some, None}
use Rattle.px_code.specs.declared.side.Side.{Side}
use Rattle.px_code.specs.declared.cell.Part.{Part}
use Rattle.px_code.specs.declared.word.Word.{Word}
use Rattle.px_code.specs.declared.word.Word.TheVariants as w
use Rattle.px_code.specs.declared.code.Code.{Code}
use Rattle.px_code.specs.declared.block.Send.{Send}
use Rattle.px_code.specs.Places.{other, side_of, home, field_node}
use Rattle.px_code.specs.Points.{HasStatement, ReadsPart, WritesPart}

-- A side keeps what is at home there, and what a statement there reads.
pub data Keeps (code : Code) (sides : List Side) (side : Side) (site : ℕ) (part : Part) : Type 0 where
  at_home : home code sides site part ≡ side → Keeps code sides side site part
  read_there : {m node : ℕ} {word : Word} → HasStatement code m node word → side_of sides node ≡ side → ReadsPart code m word site part → Keeps code sides side site part

-- A send follows a statement exactly where it writes what the other side keeps.
pub record NeedsSend (code : Code) (sides : List Side) (m node : ℕ) (word : Word) : Type 0 where
  pub site : ℕ
  pub part : Part
  pub writes : WritesPart code m word site part
  pub kept : Keeps code sides (other (side_of sides node)) site part

-- the send after a word: it names the cells of the object that are at home where the field is
abbrev pub IsSendOf : Code → List Side → Word → Send → Type 0
IsSendOf code sides (w.Put of class field value) send = (send.home ≡ side_of sides (field_node code class field)) × (send.object ≡ of)
IsSendOf code sides _ send = ⊥

abbrev pub IsRightSend : Code → List Side → ℕ → ℕ → Word → Option Send → Type 0
IsRightSend code sides m node word None = NeedsSend code sides m node word → ⊥
IsRightSend code sides m node word (Some send) = NeedsSend code sides m node word × IsSendOf code sides word send
