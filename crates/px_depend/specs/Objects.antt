-- The edges through what objects hold, as lists.
use Rattle.std.specs.Prelude.{◌≡◌, ℕ, nat_eq, unwrap_or, Bool, ◌&&◌, List, [], ◌∷◌, ◌++◌, map, Option, Some, None, if◌then◌else◌}
use Rattle.std.specs.Option.{option_eq}
use Rattle.std.specs.HashMap.{HashMap, get_by}
use Rattle.px_normal.specs.declared.code.Code.{Code}
use Rattle.px_flow_points.specs.declared.part.Part.{Part}
use Rattle.px_flow_points.specs.declared.part.Part.TheVariants.{Field, Elements}
use Rattle.px_flow_points.specs.declared.part.Pair.{Pair}
use Rattle.px_flow_points.specs.declared.pairs.Touch.{Touch}
use Rattle.px_depend.specs.declared.edge.Edge.{Edge}
use Rattle.px_depend.specs.declared.edge.End.TheVariants as end
use Rattle.px_depend.specs.declared.edge.Tie.TheVariants as tie
use Rattle.px_depend.specs.declared.sizes.Home.{Home}
use Rattle.px_depend.specs.Depend.{edge}
use Rattle.px_depend.specs.Sizes.{home_of}

-- ---- writers by pairs

-- a site, and the place of a field, or none for elements
abbrev pub Key : Type 0
Key = ℕ × Option ℕ

abbrev pub field_in : Part → Option ℕ
field_in (Field place) = Some place
field_in Elements = None

abbrev pub key_of : Pair → Key
key_of q = (q.site, field_in q.part)

abbrev pub is_key : Key → Key → Bool
is_key a b = nat_eq a.0 b.0 && option_eq nat_eq a.1 b.1

abbrev pub nodes_of : Key → List Touch → List ℕ
nodes_of key [] = []
nodes_of key (t ∷ ts) = if is_key key (key_of t.pair) then t.node ∷ nodes_of key ts else nodes_of key ts

abbrev pub written_by : {S : Type 0} → HashMap Key (List ℕ) S → Key → List ℕ
written_by {S} nodes key = unwrap_or (get_by (is_key key) nodes) []

-- the map has the nodes of each key
abbrev pub AreWriters : {S : Type 0} → HashMap Key (List ℕ) S → List Touch → Type 0
AreWriters {S} nodes touches = (key : Key) → written_by nodes key ≡ nodes_of key touches

-- ---- edges

abbrev pub update_by : Option Home → Touch → List Edge
update_by None t = []
update_by (Some home) t = edge (end.Node home.node) t.node tie.Home home.size ∷ []

abbrev pub updates : Code → List Touch → List Edge
updates code [] = []
updates code (t ∷ ts) = update_by (home_of code t.pair.site t.pair.part) t ++ updates code ts

abbrev pub part_edge : Touch → ℕ → ℕ → Edge
part_edge t size d = edge (end.Node d) t.node (tie.Part t.pair.part) size

abbrev pub found_by : Option Home → Touch → List ℕ → List Edge
found_by None t nodes = []
found_by (Some home) t nodes = map (part_edge t home.size) nodes

abbrev pub found : Code → List Touch → List Touch → List Edge
found code writes [] = []
found code writes (t ∷ ts) = found_by (home_of code t.pair.site t.pair.part) t (nodes_of (key_of t.pair) writes) ++ found code writes ts

abbrev pub object_edges : Code → List Touch → List Touch → List Edge
object_edges code writes reads = updates code writes ++ found code writes reads
