use Rattle.px_code.specs.declared.side.Side.{Side}
use Rattle.px_code.specs.declared.side.Side.TheVariants.{App, Db}
use Rattle.px_code.specs.declared.code.Code.{Code}
use Rattle.px_compile.specs.declared.kept.Kept.{Kept}
use Rattle.std.proofs.Common.{List}
use Rattle.px_compile.specs.Kept.{AreKeptAt, AreKept}
use Rattle.px_compile.proofs.kept.Kept.new.Goals as goal

at_both : (code : Code) (sides : List Side) (kept : Kept) → AreKeptAt code sides App kept.app → AreKeptAt code sides Db kept.db → AreKept code sides kept
at_both code sides kept app db App = app
at_both code sides kept app db Db = db

pub returns : goal.returns
returns c = at_both c.args.code.now c.args.sides.now (record { app = c.in_ok-kept_at.field-0; db = c.in_ok-kept_at-2.field-0 }) c.in_ok-kept_at.ensures c.in_ok-kept_at-2.ensures
