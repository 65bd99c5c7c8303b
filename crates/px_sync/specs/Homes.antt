-- Where the cells of objects are at home: fields where their nodes are placed, elements where the node of the site is that made them.
use Rattle.std.specs.Prelude.{ℕ, zero, suc, List, Option, Some, None, unwrap_or, slice_get}
use Rattle.px_value.specs.declared.header.Kind.{Kind}
use Rattle.px_value.specs.declared.header.Kind.TheVariants as kind
use Rattle.px_normal.specs.declared.class.Field.{Field as FieldOf}
use Rattle.px_normal.specs.declared.code.Site.{Site}
use Rattle.px_normal.specs.declared.code.Code.{Code}
use Rattle.px_normal.specs.First.{fields_of}
use Rattle.px_flow_points.specs.declared.part.Part.{Part}
use Rattle.px_flow_points.specs.declared.part.Part.TheVariants.{Field, Elements}
use Rattle.px_blocks.specs.declared.side.Side.{Side}
use Rattle.px_blocks.specs.Rules.{side_of}

abbrev pub node_of : Option FieldOf → ℕ
node_of None = 0
node_of (Some f) = f.node

-- the node of a field, by the places of its class and of its own
abbrev pub field_node : Code → ℕ → ℕ → ℕ
field_node code class place = node_of (slice_get (fields_of code class) place)

-- the node of a part of objects of a kind, whose elements a node places; 0 where it has none
abbrev pub part_node : Code → Kind → Option ℕ → Part → ℕ
part_node code (kind.Object class) by (Field place) = field_node code class place
part_node code (kind.Object class) by Elements = 0
part_node code (kind.Array element) by part = unwrap_or by 0
part_node code (kind.Rows statement) by part = unwrap_or by 0

abbrev pub site_node : Code → Option Site → Part → ℕ
site_node code None part = 0
site_node code (Some site) part = part_node code site.kind site.node part

-- site 0 makes the first object of a session, of the main class
abbrev pub home_node : Code → ℕ → Part → ℕ
home_node code zero part = part_node code (kind.Object code.main) None part
home_node code (suc n) part = site_node code (slice_get code.sites n) part

abbrev pub home : Code → List Side → ℕ → Part → Side
home code sides s part = side_of sides (home_node code s part)

abbrev pub field_home : Code → List Side → ℕ → ℕ → Side
field_home code sides class place = side_of sides (field_node code class place)
