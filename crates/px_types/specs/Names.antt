-- Names as they are declared and looked up. A name is the list of its bytes.
use Rattle.std.specs.Prelude.{ℕ, Bool, List, [], ◌∷◌, ◌++◌, Option, Some, None, position, slice_get, codes, if◌then◌else◌}
use Rattle.std.specs.List.{list_any}
use Rattle.std.specs.Str.{bytes_eq}
use Rattle.px_tree.specs.declared.Name.{Name}
use Rattle.px_types.specs.declared.table.Table.{Table}
use Rattle.px_type_rules.specs.Breaches.{Note, breach_if}

-- the place of a name, from 0
abbrev pub place_of : List ℕ → List (List ℕ) → Option ℕ
place_of name names = position (bytes_eq name) names

abbrev pub has_name : List ℕ → List (List ℕ) → Bool
has_name name names = list_any (bytes_eq name) names

-- nothing is declared
abbrev pub empty : {V : Type 0} → Table V
empty = record { names = []; values = [] }

-- a name that is declared twice means its first declaration
abbrev pub declare : {V : Type 0} → List ℕ → V → Table V → Table V
declare name value t = if has_name name t.names then t else record { names = t.names ++ name ∷ []; values = t.values ++ value ∷ [] }

abbrev pub value_at : {V : Type 0} → Option ℕ → List V → Option V
value_at None values = None
value_at (Some place) values = slice_get values place

-- what a name was declared as
abbrev pub find : {V : Type 0} → List ℕ → Table V → Option V
find name t = value_at (place_of name t.names) t.values

-- names with a meaning of their own
abbrev pub reserved : List (List ℕ)
reserved = codes "Db" ∷ codes "System" ∷ codes "String" ∷ codes "ResultSet" ∷ []

-- rule 1: a name is declared once (JLS 6.4, 8.3, 8.4.2)
abbrev pub repeated : Bool → Name → List Note
repeated again name = breach_if again name.token 1

-- rule 18: no class, field, parameter or local has a reserved name
abbrev pub reserves : Name → List Note
reserves name = breach_if (has_name name.bytes reserved) name.token 18
