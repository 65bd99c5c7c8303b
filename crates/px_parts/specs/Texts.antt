-- What `split` shows of parts.
use Rattle.std.specs.Prelude.{◌≡◌, ℕ, List, [], ◌∷◌, ◌++◌}
use Rattle.px_normal.specs.declared.word.Word.{Word}
use Rattle.px_normal.specs.declared.code.Code.{Code}
use Rattle.px_flow_points.specs.Statements.{HasStatement}
use Rattle.px_blocks.specs.declared.placed.Placed.{Placed}
use Rattle.px_sync.specs.Sends.{IsOwn, HasSends}
use Rattle.px_named.specs.Named.{named}
use Rattle.px_named.specs.Parts.{part_text}
use Rattle.px_job.specs.declared.job.Part.{Part}
use Rattle.px_parts.specs.Sides.{placement_of}

-- the part's name, and the code at its placement with the sends that it needs
pub record IsPartText (code : Code) (part : Part) (text : List ℕ) : Type 0 where
  pub placed : Placed
  pub sends : HasSends code (placement_of part) placed
  pub is : text ≡ part_text part.name (named code placed)

-- the texts of parts, one behind the other
pub data AreTexts (code : Code) : List Part → List ℕ → Type 0 where
  none : AreTexts code [] []
  more : {part : Part} {parts : List Part} {text rest : List ℕ} → IsPartText code part text → AreTexts code parts rest → AreTexts code (part ∷ parts) (text ++ rest)

-- each statement has a node of its own
abbrev pub AreOwn : Code → Type 0
AreOwn code = (m node : ℕ) (word : Word) → HasStatement code m node word → IsOwn code node

-- So it is fixed which sends there are, and what the text is.
pub record IsSplitText (code : Code) (parts : List Part) (text : List ℕ) : Type 0 where
  pub own : AreOwn code
  pub texts : AreTexts code parts text
