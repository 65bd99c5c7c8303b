-- Classes, and their fields and methods by name (JLS 8).
use Rattle.std.specs.Prelude.{ℕ, ◌+◌, Bool, true, false, not, ◌&&◌, List, [], ◌∷◌, Option, Some, None, is_none, map, fold, codes, nat_eq, slice_get, if◌then◌else◌}
use Rattle.std.specs.Option.{option_and_then}
use Rattle.px_tree.specs.declared.Access.{Access}
use Rattle.px_tree.specs.declared.Access.TheVariants.{Private, Plain}
use Rattle.px_tree.specs.declared.Base.{Base}
use Rattle.px_tree.specs.declared.Base.TheVariants as base
use Rattle.px_tree.specs.declared.Name.{Name}
use Rattle.px_tree.specs.declared.TypeName.{TypeName}
use Rattle.px_tree.specs.declared.Param.{Param}
use Rattle.px_tree.specs.declared.Method.{Method}
use Rattle.px_tree.specs.declared.FieldDecl.{FieldDecl}
use Rattle.px_tree.specs.declared.Member.{Member}
use Rattle.px_tree.specs.declared.Member.TheVariants as member
use Rattle.px_tree.specs.declared.Class.{Class}
use Rattle.px_value.specs.declared.schema.Schema.{Schema}
use Rattle.px_facts.specs.declared.types.Ty.{Ty}
use Rattle.px_facts.specs.declared.types.Ty.TheVariants.{Unknown, Void, Int, Long, Boolean, Text, Object, Array, ResultSet}
use Rattle.px_types.specs.declared.table.Table.{Table}
use Rattle.px_types.specs.declared.classes.FieldType.{FieldType}
use Rattle.px_types.specs.declared.classes.MethodType.{MethodType}
use Rattle.px_types.specs.declared.classes.Members.{Members}
use Rattle.px_types.specs.declared.classes.Library.{Library}
use Rattle.px_types.specs.declared.classes.Classes.{Classes}
use Rattle.px_type_rules.specs.Breaches.{Note, breach_if}
use Rattle.px_types.specs.Names.{empty, declare, find}
use Rattle.px_facts.specs.Types.{array_of}

-- ---- types by name

abbrev pub class_type : Option ℕ → Ty
class_type None = Unknown
class_type (Some number) = Object number

abbrev pub base_type : Table ℕ → Base → Ty
base_type numbers base.Int = Int
base_type numbers base.Long = Long
base_type numbers base.Boolean = Boolean
base_type numbers base.Str = Text
base_type numbers base.ResultSet = ResultSet
base_type numbers (base.Class name) = class_type (find name.bytes numbers)

abbrev pub type_of : Table ℕ → TypeName → Ty
type_of numbers t = if t.array then array_of (base_type numbers t.base) else base_type numbers t.base

abbrev pub result_type : Table ℕ → Option TypeName → Ty
result_type numbers None = Void
result_type numbers (Some t) = type_of numbers t

abbrev pub param_type : Table ℕ → Param → Ty
param_type numbers p = type_of numbers p.ty

-- rule 2: the name of a type is a class (JLS 6.5.5)
abbrev pub no_class : Table ℕ → Name → List Note
no_class numbers name = breach_if (is_none (find name.bytes numbers)) name.token 2

abbrev pub names_no_class : Table ℕ → Base → List Note
names_no_class numbers (base.Class name) = no_class numbers name
names_no_class numbers _ = []

-- ---- members by name

abbrev pub no_members : Members
no_members = record { fields = empty; methods = empty }

abbrev pub field_type : Table ℕ → FieldDecl → FieldType
field_type numbers f = record { access = f.access; ty = type_of numbers f.ty }

abbrev pub method_type : Table ℕ → Method → MethodType
method_type numbers m = record { access = m.access; params = map (param_type numbers) m.params; result = result_type numbers m.gives }

abbrev pub with_field : Table ℕ → FieldDecl → Members → Members
with_field numbers f ms = record ms { fields = declare f.name.bytes (field_type numbers f) ms.fields }

abbrev pub with_method : Table ℕ → Method → Members → Members
with_method numbers m ms = record ms { methods = declare m.name.bytes (method_type numbers m) ms.methods }

abbrev pub with_member : Table ℕ → Members → Member → Members
with_member numbers ms (member.Field f) = with_field numbers f ms
with_member numbers ms (member.Method m) = with_method numbers m ms

abbrev pub members_in : Table ℕ → List Member → Members
members_in numbers members = fold (with_member numbers) no_members members

abbrev pub class_members : Table ℕ → Class → Members
class_members numbers c = members_in numbers c.members

-- a String has the methods `length()` and `equals(s)`
abbrev pub length_method : MethodType
length_method = record { access = Plain; params = []; result = Int }

abbrev pub equals_method : MethodType
equals_method = record { access = Plain; params = Text ∷ []; result = Boolean }

abbrev pub text_members : Members
text_members = record { fields = empty; methods = declare (codes "equals") equals_method (declare (codes "length") length_method empty) }

-- an array has the field `length` (JLS 10.7)
abbrev pub length_field : FieldType
length_field = record { access = Plain; ty = Int }

abbrev pub array_members : Members
array_members = record { fields = declare (codes "length") length_field empty; methods = empty }

-- a result set has the methods `next()`, `getLong(i)` and `getString(i)`
abbrev pub next_method : MethodType
next_method = record { access = Plain; params = []; result = Boolean }

-- a method that takes the number of a column
abbrev pub column_method : Ty → MethodType
column_method gives = record { access = Plain; params = Int ∷ []; result = gives }

abbrev pub rows_members : Members
rows_members = record {
  fields = empty;
  methods = declare (codes "getString") (column_method Text) (declare (codes "getLong") (column_method Long) (declare (codes "next") next_method empty));
}

abbrev pub library_of : Schema → Library
library_of schema = record { text = text_members; array = array_members; rows = rows_members; schema = schema }

-- classes by name, each with its place in the file
abbrev pub numbered : ℕ → Table ℕ → List Class → Table ℕ
numbered number numbers [] = numbers
numbered number numbers (c ∷ cs) = numbered (number + 1) (declare c.name.bytes number numbers) cs

abbrev pub numbers_of : List Class → Table ℕ
numbers_of classes = numbered 0 empty classes

-- all classes of a program, and what it declares beside them
abbrev pub classes_of : Schema → List Class → Classes
classes_of schema classes = record {
  numbers = numbers_of classes;
  members = map (class_members (numbers_of classes)) classes;
  library = library_of schema;
}

-- ---- members of a type

abbrev pub members_of : Ty → Classes → Option Members
members_of (Object number) classes = slice_get classes.members number
members_of Text classes = Some classes.library.text
members_of (Array e) classes = Some classes.library.array
members_of ResultSet classes = Some classes.library.rows
members_of _ classes = None

abbrev pub field_of : Ty → List ℕ → Classes → Option FieldType
field_of t name classes = option_and_then (λ (ms : Members). find name ms.fields) (members_of t classes)

abbrev pub method_of : Ty → List ℕ → Classes → Option MethodType
method_of t name classes = option_and_then (λ (ms : Members). find name ms.methods) (members_of t classes)

abbrev pub is_private : Access → Bool
is_private Private = true
is_private _ = false

-- a class, seen from inside the class with this number
abbrev pub is_outside : Ty → ℕ → Bool
is_outside (Object number) this = not (nat_eq number this)
is_outside _ this = true

-- rule 15: a private member is used in its own class only (JLS 6.6.1)
abbrev pub hidden : Ty → ℕ → Access → Name → List Note
hidden t this access name = breach_if (is_private access && is_outside t this) name.token 15
