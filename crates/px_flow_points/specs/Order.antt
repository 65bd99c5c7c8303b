-- Sets as sorted lists, by any order.
use Rattle.std.specs.Prelude.{List, [], ◌∷◌}
use Rattle.std.specs.declared.cmp.Ordering.{Ordering}
use Rattle.std.specs.BTreeSet.{insert_key}

-- a sorted list after these are put in one by one
abbrev pub put_all : {K : Type 0} → (K → K → Ordering) → List K → List K → List K
put_all cmp keys [] = keys
put_all cmp keys (k ∷ ks) = put_all cmp (insert_key cmp keys k) ks
