-- What stands behind borrows.
use Rattle.std.specs.Prelude.{List, map}
use Rattle.std.specs.Borrow.{Bor}

abbrev pub all_now : {A : Type 0} → List (Bor A) → List A
all_now xs = map (λ x. x.now) xs
