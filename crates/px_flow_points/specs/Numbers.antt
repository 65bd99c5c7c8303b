-- Variables by number: in the group of a method what it returns and then its slots; in that of a site its parts.
use Rattle.std.specs.Prelude.{ℕ, ◌+◌, ◌-◌, ◌^◌, nat_lt, List, [], ◌∷◌, map, length, unwrap_or, slice_get, if◌then◌else◌}
use Rattle.px_value.specs.declared.header.Kind.{Kind}
use Rattle.px_value.specs.declared.header.Kind.TheVariants as kind
use Rattle.px_constraints.specs.declared.system.Cells.{Cells}
use Rattle.px_normal.specs.declared.method.Method.{Method}
use Rattle.px_normal.specs.declared.code.Site.{Site}
use Rattle.px_normal.specs.declared.code.Code.{Code}
use Rattle.px_normal.specs.First.{fields_of}

abbrev pub capped : ℕ → ℕ
capped n = if nat_lt n (2 ^ 32) then n else 2 ^ 32 - 1

abbrev pub number : List ℕ → ℕ → ℕ → ℕ
number bases group at = capped (unwrap_or (slice_get bases group) 0 + at)

abbrev pub result_var : List ℕ → ℕ → ℕ
result_var bases m = number bases (m - 1) 0

abbrev pub slot_var : List ℕ → ℕ → ℕ → ℕ
slot_var bases m n = capped (number bases (m - 1) 1 + n)

-- ---- groups, one after the other

-- the first number of each group of so many
abbrev pub firsts : ℕ → List ℕ → List ℕ
firsts n [] = []
firsts n (k ∷ ks) = n ∷ firsts (n + k) ks

-- the number after the last group
abbrev pub behind : ℕ → List ℕ → ℕ
behind n [] = n
behind n (k ∷ ks) = behind (n + k) ks

abbrev pub cells_from : ℕ → List ℕ → List Cells
cells_from n [] = []
cells_from n (k ∷ ks) = record { first = n; count = k } ∷ cells_from (n + k) ks

abbrev pub method_size : Method → ℕ
method_size m = 1 + length m.slots

abbrev pub method_sizes : List Method → List ℕ
method_sizes methods = map method_size methods

-- an object has its fields, an array and rows their elements
abbrev pub kind_size : Code → Kind → ℕ
kind_size code (kind.Object class) = length (fields_of code class)
kind_size code _ = 1

abbrev pub site_size : Code → Site → ℕ
site_size code site = kind_size code site.kind

abbrev pub site_sizes : Code → List Site → List ℕ
site_sizes code sites = map (site_size code) sites

abbrev pub all_site_sizes : Code → List ℕ
all_site_sizes code = length (fields_of code code.main) ∷ site_sizes code code.sites
