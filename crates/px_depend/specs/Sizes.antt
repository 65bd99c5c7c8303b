-- The bytes of values in messages, and where parts are at home.
use Rattle.std.specs.Prelude.{ℕ, zero, suc, Option, Some, None, slice_get}
use Rattle.px_value.specs.declared.header.Kind.{Kind}
use Rattle.px_value.specs.declared.header.Kind.TheVariants as kind
use Rattle.px_normal.specs.declared.ty.Ty.{Ty}
use Rattle.px_normal.specs.declared.ty.Ty.TheVariants as ty
use Rattle.px_normal.specs.declared.class.Field.{Field as FieldOf}
use Rattle.px_normal.specs.declared.code.Site.{Site}
use Rattle.px_normal.specs.declared.code.Code.{Code}
use Rattle.px_normal.specs.First.{fields_of}
use Rattle.px_normal.specs.Typed.{element_type}
use Rattle.px_flow_points.specs.declared.part.Part.{Part}
use Rattle.px_flow_points.specs.declared.part.Part.TheVariants.{Field, Elements}
use Rattle.px_depend.specs.declared.sizes.Home.{Home}

-- a text is taken to have so many
abbrev pub size_of : Ty → ℕ
size_of ty.Int = 5
size_of ty.Long = 9
size_of ty.Bool = 2
size_of ty.Text = 20
size_of _ = 5

abbrev pub field_home : Option FieldOf → Option Home
field_home None = None
field_home (Some f) = Some (record { node = f.node; size = size_of f.ty })

abbrev pub home_with : Option ℕ → ℕ → Option Home
home_with None size = None
home_with (Some node) size = Some (record { node = node; size = size })

-- what the rows of a query have is a number or a text
abbrev pub home_in : Code → Kind → Option ℕ → Part → Option Home
home_in code (kind.Object class) placed (Field place) = field_home (slice_get (fields_of code class) place)
home_in code (kind.Object class) placed Elements = None
home_in code (kind.Array element) placed (Field place) = None
home_in code (kind.Array element) placed Elements = home_with placed (size_of (element_type element))
home_in code (kind.Rows statement) placed (Field place) = None
home_in code (kind.Rows statement) placed Elements = home_with placed 9

abbrev pub home_at : Code → Option Site → Part → Option Home
home_at code None part = None
home_at code (Some site) part = home_in code site.kind site.node part

-- a field is at home where its node is, elements where the node of their site is; site 0 makes an object of the main class
abbrev pub home_of : Code → ℕ → Part → Option Home
home_of code zero part = home_in code (kind.Object code.main) None part
home_of code (suc n) part = home_at code (slice_get code.sites n) part
