-- Constraints by variable.
use Rattle.std.specs.Prelude.{ℕ, List, [], ◌∷◌, ◌++◌, replicate, Option, Some, None, slice_get, slice_set}
use Rattle.px_constraints.specs.declared.facts.Fact.{Fact}
use Rattle.px_constraints.specs.declared.system.Look.{Look}
use Rattle.px_constraints.specs.declared.system.Cells.{Cells}
use Rattle.px_constraints.specs.declared.system.Constraint.{Constraint}
use Rattle.px_constraints.specs.declared.system.Constraint.TheVariants.{Start, Copies, Loads, Stores}

-- what the facts begin with; the constraints by variable; the variables of the parts of each site
pub record System : Type 0 where
  pub starts : List Fact
  pub copies : List (List ℕ)
  pub loads : List (List Look)
  pub stores : List (List Look)
  pub cells : List Cells

abbrev pub pushed_at : {A : Type 0} → Option (List A) → ℕ → A → List (List A) → List (List A)
pushed_at None x y xss = xss
pushed_at (Some xs) x y xss = slice_set xss x (xs ++ y ∷ [])

-- one more at the end of a list
abbrev pub pushed : {A : Type 0} → ℕ → A → List (List A) → List (List A)
pushed x y xss = pushed_at (slice_get xss x) x y xss

abbrev pub with_constraint : Constraint → System → System
with_constraint (Start f) C = record C { starts = C.starts ++ f ∷ [] }
with_constraint (Copies x y) C = record C { copies = pushed x y C.copies }
with_constraint (Loads x l) C = record C { loads = pushed x l C.loads }
with_constraint (Stores x l) C = record C { stores = pushed x l C.stores }

abbrev pub with_constraints : List Constraint → System → System
with_constraints [] C = C
with_constraints (k ∷ ks) C = with_constraints ks (with_constraint k C)

abbrev pub no_constraints : ℕ → List Cells → System
no_constraints n cells = record { starts = []; copies = replicate n []; loads = replicate n []; stores = replicate n []; cells = cells }
