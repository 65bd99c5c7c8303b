-- What is known of code before it is cut.
use Rattle.std.specs.Prelude.{List}
use Rattle.px_code.specs.declared.side.Side.{Side}
use Rattle.px_code.specs.declared.code.Code.{Code}
use Rattle.px_points.specs.Analysis.{IsPointsOf}
use Rattle.px_compile.specs.declared.facts.Facts.{Facts}
use Rattle.px_compile.specs.Kept.{AreKept}

pub record AreFacts (code : Code) (sides : List Side) (facts : Facts) : Type 0 where
  pub points : IsPointsOf code facts.points
  pub kept : AreKept code sides facts.kept
