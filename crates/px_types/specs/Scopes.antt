-- The parameters and locals in scope (JLS 6.3, 6.4).
use Rattle.std.specs.Prelude.{ℕ, List, ◌++◌, Option, Some, None, length, take, nat_lt, slice_get, if◌then◌else◌}
use Rattle.std.specs.Option.{option_map}
use Rattle.px_tree.specs.declared.Name.{Name}
use Rattle.px_facts.specs.declared.types.Ty.{Ty}
use Rattle.px_facts.specs.declared.types.Ty.TheVariants.{Unknown, Object}
use Rattle.px_types.specs.declared.classes.FieldType.{FieldType}
use Rattle.px_types.specs.declared.context.Context.{Context}
use Rattle.px_types.specs.declared.locals.Locals.{Locals}
use Rattle.px_type_rules.specs.Breaches.{Note}
use Rattle.px_types.specs.Names.{empty, declare, place_of, has_name, repeated, reserves}
use Rattle.px_types.specs.Members.{field_of}

abbrev pub no_locals : Locals
no_locals = record { table = empty; usable = 0 }

-- a local that has no value yet
abbrev pub with_local : Name → Ty → Locals → Locals
with_local name ty locals = record locals { table = declare name.bytes ty locals.table }

-- all locals may be used
abbrev pub all_usable : Locals → Locals
all_usable locals = record locals { usable = length locals.table.names }

-- the end of a scope: the locals that were in scope before it
abbrev pub left : Locals → Locals → Locals
left outer inner = record { table = record { names = take (length outer.table.names) inner.table.names; values = take (length outer.table.names) inner.table.values }; usable = outer.usable }

-- the rules on the name of a parameter or a local
abbrev pub local_notes : Name → Locals → List Note
local_notes name locals = repeated (has_name name.bytes locals.table.names) name ++ reserves name

-- the type of the local at a place, where it may be used
abbrev pub usable_type : Option ℕ → Locals → Option Ty
usable_type None locals = None
usable_type (Some place) locals = if nat_lt place locals.usable then slice_get locals.table.values place else None

-- a parameter or a local, by its name
abbrev pub local_type : List ℕ → Locals → Option Ty
local_type name locals = usable_type (place_of name locals.table.names) locals

-- a field of this class
abbrev pub own_field : Context → List ℕ → Option Ty
own_field context name = option_map (λ (f : FieldType). f.ty) (field_of (Object context.this) name context.classes)

-- a local shadows a field of its name (JLS 6.4.1)
abbrev pub shadowed : Option ℕ → Locals → Option Ty → Option Ty
shadowed None locals field = field
shadowed (Some place) locals field = usable_type (Some place) locals

-- the type of a variable, by its name (JLS 6.5.6.1)
abbrev pub variable_type : Context → Locals → List ℕ → Option Ty
variable_type context locals name = shadowed (place_of name locals.table.names) locals (own_field context name)

abbrev pub or_unknown : Option Ty → Ty
or_unknown None = Unknown
or_unknown (Some t) = t
