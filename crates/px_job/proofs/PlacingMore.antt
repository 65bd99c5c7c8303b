-- Where each side is set, the placement has it.
use Rattle.std.proofs.Common.{◌≡◌, List, [], ◌∷◌, map, Option, Some, None, refl, ap}
use Rattle.std.specs.List.{AllByRecursion}
use Rattle.px_code.specs.declared.side.Side.{Side}
use Rattle.px_job.specs.Fitting.{IsSet}
use Rattle.px_job.specs.Placing.{sides_or_app}

pub all_set : (sides : List (Option Side)) → AllByRecursion IsSet sides → map Some (sides_or_app sides) ≡ sides
all_set [] all = refl
all_set (Some side ∷ sides) all = ap (λ (rest : List (Option Side)). Some side ∷ rest) (all_set sides all.1)
all_set (None ∷ sides) all = absurd (cc all.0)
