-- Where entries stand, by their names.
use Rattle.std.specs.Prelude.{◌≡◌, ℕ, ◌+◌, List, [], ◌∷◌, Option, Some, None, if◌then◌else◌}
use Rattle.std.specs.Str.{bytes_eq}
use Rattle.std.specs.HashMap.{HashMap, get_by}
use denote.Ref.{Bor}
use Rattle.px_facts.specs.declared.checked.Entry.{Entry}

-- the first entry of a name among those from a place on
abbrev pub place_from : List ℕ → ℕ → List Entry → Option ℕ
place_from name place [] = None
place_from name place (entry ∷ entries) = if bytes_eq entry.name name then Some place else place_from name (place + 1) entries

abbrev pub place_of : List ℕ → List Entry → Option ℕ
place_of name entries = place_from name 0 entries

-- the number that a map has for a name
abbrev pub place_in : {S : Type 0} → HashMap (Bor (List ℕ)) ℕ S → List ℕ → Option ℕ
place_in places name = get_by (λ k. bytes_eq name k.now) places

-- the map has the place of each name
abbrev pub ArePlaces : {S : Type 0} → HashMap (Bor (List ℕ)) ℕ S → List Entry → Type 0
ArePlaces places entries = (name : List ℕ) → place_in places name ≡ place_of name entries
