-- That code and parts fix the text.
use Rattle.std.specs.Prelude.{◌≡◌, ℕ, List}
use Rattle.px_normal.specs.declared.code.Code.{Code}
use Rattle.px_job.specs.declared.job.Part.{Part}
use Rattle.px_parts.specs.Texts.{IsSplitText}

abbrev pub SplitIsOne : Type 0
SplitIsOne = (code : Code) (parts : List Part) (t u : List ℕ) → IsSplitText code parts t → IsSplitText code parts u → t ≡ u
