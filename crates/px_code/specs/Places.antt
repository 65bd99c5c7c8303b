-- Where nodes, fields and the cells of objects are placed.
use Rattle.std.specs.Prelude.{ℕ, zero, suc, Bool, true, false, List, [], Option, Some, None, unwrap_or, slice_get}
use Rattle.px_value.specs.declared.header.Header.{Header}
use Rattle.px_value.specs.declared.header.Kind.{Kind}
use Rattle.px_value.specs.declared.header.Kind.TheVariants as kind
use Rattle.px_code.specs.declared.side.Side.{Side}
use Rattle.px_code.specs.declared.side.Side.TheVariants.{App, Db}
use Rattle.px_code.specs.declared.cell.Part.{Part}
use Rattle.px_code.specs.declared.cell.Part.TheVariants.{Field as FieldPart, Elements}
use Rattle.px_code.specs.declared.class.Class.{Class}
use Rattle.px_code.specs.declared.class.Field.{Field}
use Rattle.px_code.specs.declared.code.Code.{Code}
use Rattle.px_code.specs.declared.code.Site.{Site}

abbrev pub other : Side → Side
other App = Db
other Db = App

abbrev pub is_app : Side → Bool
is_app App = true
is_app Db = false

abbrev pub same_side : Side → Side → Bool
same_side App side = is_app side
same_side Db App = false
same_side Db Db = true

-- numbered from 1
abbrev pub numbered : {A : Type 0} → List A → ℕ → Option A
numbered xs zero = None
numbered xs (suc n) = slice_get xs n

-- the side of a node
abbrev pub side_of : List Side → ℕ → Side
side_of sides node = unwrap_or (numbered sides node) App

abbrev pub fields_in : Option Class → List Field
fields_in None = []
fields_in (Some class) = class.fields

abbrev pub node_of_field : Option Field → ℕ
node_of_field None = 0
node_of_field (Some field) = field.node

abbrev pub node_of_site : Option Site → ℕ
node_of_site None = 0
node_of_site (Some site) = unwrap_or site.node 0

abbrev pub field_node : Code → ℕ → ℕ → ℕ
field_node code class place = node_of_field (slice_get (fields_in (slice_get code.classes class)) place)

-- the node that places a cell: that of its field, or of the site that made its object
abbrev pub node_by : Code → ℕ → Kind → ℕ → ℕ
node_by code site (kind.Object class) index = field_node code class index
node_by code site _ index = node_of_site (numbered code.sites site)

abbrev pub home_by : Code → List Side → Header → ℕ → Side
home_by code sides h index = side_of sides (node_by code h.site h.kind index)

-- the home of a cell, by the header of its object
abbrev pub home_in : Code → List Side → Option Header → ℕ → Side
home_in code sides None index = App
home_in code sides (Some h) index = home_by code sides h index

-- the part that a cell belongs to
abbrev pub part_by : Kind → ℕ → Part
part_by (kind.Object class) index = FieldPart index
part_by _ index = Elements

-- what the objects of a site are; site 0 makes the first object, of Main
abbrev pub kind_of_site : Option Site → Option Kind
kind_of_site None = None
kind_of_site (Some site) = Some site.kind

abbrev pub site_kind : Code → ℕ → Option Kind
site_kind code zero = Some (kind.Object code.main)
site_kind code (suc n) = kind_of_site (slice_get code.sites n)

abbrev pub home_of_kind : Code → List Side → ℕ → Option Kind → Part → Side
home_of_kind code sides site (Some (kind.Object class)) (FieldPart place) = side_of sides (field_node code class place)
home_of_kind code sides site kind part = side_of sides (node_of_site (numbered code.sites site))

-- the home of a part of the objects of a site: the side of the field, or of the site
abbrev pub home : Code → List Side → ℕ → Part → Side
home code sides site part = home_of_kind code sides site (site_kind code site) part
