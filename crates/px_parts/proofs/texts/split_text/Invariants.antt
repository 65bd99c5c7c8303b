use Rattle.std.proofs.Common.{◌≡◌, ℕ, List, ◌++◌, drop}
use Rattle.px_parts.specs.Texts.{AreTexts}
use Rattle.px_parts.proofs.texts.split_text.Given as goal

-- whatever the texts of the parts that are left, they go behind what is there
abbrev pub invariant-loop-part : goal.invariant-loop-part
invariant-loop-part l = (rest : List ℕ) → AreTexts l.fn.code (drop l.part-index l.fn.parts) rest → AreTexts l.fn.code l.fn.parts (l.text.items ++ rest)
