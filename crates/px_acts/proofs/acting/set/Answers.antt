use Rattle.std.proofs.Common.{Ok}
use Rattle.px_effects.specs.Cells.{first_cells, comes}
use Rattle.px_acts.proofs.WithOperands.{one}
use Rattle.px_acts.proofs.acting.set.Goals as goal

pub returns : goal.returns
returns c fresh heap = one (first_cells fresh) heap heap (Ok c.comes.result) comes _ c.in_ok-value.value c.in_ok-value.ensures (c.comes.ensures heap)
