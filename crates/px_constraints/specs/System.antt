-- Constraints, and the least sets that they ask for.
use Rattle.std.specs.Prelude.{◌≡◌, ◌+◌, ◌<◌, ◌^◌, ℕ, nat_lt, List, [], length, Option, Some, None, unwrap_or, slice_get, if◌then◌else◌}
use Rattle.px_constraints.specs.declared.facts.Fact.{Fact}
use Rattle.px_constraints.specs.declared.system.Look.{Look}
use Rattle.px_constraints.specs.declared.system.Cells.{Cells}
use Rattle.px_constraints.specs.Systems.{System}

abbrev pub at_list : {A : Type 0} → List (List A) → ℕ → List A
at_list xss k = unwrap_or (slice_get xss k) []

abbrev pub part_of_cells : Option Cells → ℕ → Option ℕ
part_of_cells None part = None
part_of_cells (Some c) part = if nat_lt part c.count then (if nat_lt (c.first + part) (2 ^ 32) then Some (c.first + part) else None) else None

-- the variable of a part of a site
abbrev pub cell_of : List Cells → ℕ → ℕ → Option ℕ
cell_of cells site part = part_of_cells (slice_get cells site) part

-- the element stands in the list
abbrev pub At : {A : Type 0} → List A → A → Type 0
At xs x = (k : ℕ) × (slice_get xs k ≡ Some x)

abbrev pub copies_at : System → ℕ → List ℕ
copies_at C x = at_list C.copies x

abbrev pub loads_at : System → ℕ → List Look
loads_at C x = at_list C.loads x

abbrev pub stores_at : System → ℕ → List Look
stores_at C x = at_list C.stores x

-- the variable may lead to the site
pub data Derives (C : System) : ℕ → ℕ → Type 0 where
  start : {f : Fact} → At C.starts f → Derives C f.var f.site
  copy : {x y s : ℕ} → At (copies_at C x) y → Derives C x s → Derives C y s
  load : {x s t c : ℕ} {l : Look} → At (loads_at C x) l → Derives C x s → cell_of C.cells s l.part ≡ Some c → Derives C c t → Derives C l.slot t
  store : {x s t c : ℕ} {l : Look} → At (stores_at C x) l → Derives C x s → cell_of C.cells s l.part ≡ Some c → Derives C l.slot t → Derives C c t

-- every variable and every site is there
pub record AreThere (C : System) : Type 0 where
  pub starts : (f : Fact) → At C.starts f → (f.var < length C.copies) × (f.site < length C.cells)
  pub copies : (x y : ℕ) → At (copies_at C x) y → y < length C.copies
  pub loads : (x : ℕ) (l : Look) → At (loads_at C x) l → l.slot < length C.copies
  pub stores : (x : ℕ) (l : Look) → At (stores_at C x) l → l.slot < length C.copies
  pub cells : (s part c : ℕ) → cell_of C.cells s part ≡ Some c → c < length C.copies
