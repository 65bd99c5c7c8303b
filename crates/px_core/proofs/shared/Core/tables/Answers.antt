use Rattle.std.proofs.Common.{subst, sym}
use Rattle.px_rows.specs.Tables.{Tables}
use Rattle.px_core.specs.Cored.{Cored, AreTables}
use Rattle.px_core.proofs.Kept.{kept_tables}
use Rattle.px_core.proofs.shared.Core.tables.Goals as goal

pub returns : goal.returns
returns c =
    subst (λ (v : Cored). AreTables v c.tables.result.now) c.self.view_is
    (subst (λ (T : Tables). AreTables (record { program = c.self.inside.program.value; job = c.self.inside.job.value; first = c.self.inside.first.value; events = c.self.inside.engine.journal.events }) T) (sym c.tables.ensures)
    (kept_tables c.self.inside.program.value c.self.inside.job.value c.self.inside.first.value c.self.inside.engine c.self.invariant))
