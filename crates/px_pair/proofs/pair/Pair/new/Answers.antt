use Rattle.std.proofs.Common.{sym, subst}
use Rattle.px_half.specs.End.{End, new_end}
use Rattle.px_code.specs.declared.side.Side.TheVariants.{App}
use Rattle.px_pair.specs.declared.stage.Stage.TheVariants.{Idle}
use Rattle.px_pair.specs.Pair.{IsPair}
use Rattle.px_pair.proofs.Pairs.{new_is_pair}
use Rattle.px_pair.proofs.pair.Pair.new.Goals as goal

pub invariant_of-result : goal.invariant_of-result
invariant_of-result c =
    subst (λ (x : End). IsPair (record { ends = record { app = x; db = c.in_ok-db.db; at = App; moves = 0; bytes = 0 }; stage = Idle })) (sym c.in_ok-app.ensures)
    (subst (λ (y : End). IsPair (record { ends = record { app = new_end App c.args.plans.now.value.items; db = y; at = App; moves = 0; bytes = 0 }; stage = Idle })) (sym c.in_ok-db.ensures) (new_is_pair c.args.plans.now.value.items c.requires))
