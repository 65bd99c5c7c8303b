-- The sites of a variable, in order, and marks of them by number.
use Rattle.std.specs.Prelude.{◌≡◌, ℕ, ◌+◌, ◌-◌, ◌<◌, ◌==◌, Bool, true, false, List, [], ◌∷◌, ◌++◌, length, replicate, unwrap_or, slice_get, slice_set}
use Rattle.std.specs.List.{list_any}

abbrev pub has : List ℕ → ℕ → Bool
has sites s = list_any (λ t. t == s) sites

abbrev pub with_site_if : Bool → List ℕ → ℕ → List ℕ
with_site_if true sites s = sites
with_site_if false sites s = sites ++ s ∷ []

abbrev pub with_site : List ℕ → ℕ → List ℕ
with_site sites s = with_site_if (has sites s) sites s

-- ---- marks

abbrev pub is_marked : List Bool → ℕ → Bool
is_marked marks s = unwrap_or (slice_get marks s) false

-- room for so many marks
abbrev pub padded : List Bool → ℕ → List Bool
padded marks n = marks ++ replicate (n - length marks) false

abbrev pub marked : List Bool → ℕ → List Bool
marked marks s = slice_set (padded marks (s + 1)) s true

abbrev pub all_marked : List Bool → List ℕ → List Bool
all_marked marks [] = marks
all_marked marks (s ∷ sites) = all_marked (marked marks s) sites

-- where there are marks, they are those of the sites
abbrev pub AreMarked : List ℕ → List Bool → Type 0
AreMarked sites marks = 0 < length marks → (s : ℕ) → is_marked marks s ≡ has sites s
