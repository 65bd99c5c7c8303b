-- Sorted lists of sites.
use Rattle.std.specs.Prelude.{◌≡◌, ◌<◌, ℕ, nat_lt, Bool, true, List, [], ◌∷◌, Option, Some, None, slice_get, if◌then◌else◌}
use Rattle.px_constraints.specs.System.{At}

-- what stands later is greater
pub record Rises (sites : List ℕ) : Type 0 where
  pub later : (j k s t : ℕ) → j < k → slice_get sites j ≡ Some s → slice_get sites k ≡ Some t → s < t

-- the same sites, in rising order
pub record IsSetOf (sites set : List ℕ) : Type 0 where
  pub to : (s : ℕ) → At sites s → At set s
  pub back : (s : ℕ) → At set s → At sites s
  pub rises : Rises set

abbrev pub AreSetsOf : List (List ℕ) → List (List ℕ) → Type 0
AreSetsOf [] [] = Unit {0}
AreSetsOf [] (set ∷ sets) = ⊥
AreSetsOf (sites ∷ all) [] = ⊥
AreSetsOf (sites ∷ all) (set ∷ sets) = IsSetOf sites set × AreSetsOf all sets

-- ---- for the code: what is greater than all before it

abbrev pub is_above : Option ℕ → ℕ → Bool
is_above None s = true
is_above (Some last) s = nat_lt last s

abbrev pub risen : Option ℕ → List ℕ → List ℕ
risen last [] = []
risen last (s ∷ sites) = if is_above last s then s ∷ risen (Some s) sites else risen last sites
