-- The rules of a program, and its first breach.
use Rattle.std.specs.Prelude.{ℕ, ◌+◌, ◌-◌, true, not, List, [], ◌∷◌, ◌++◌, length, Option, None, nat_lt, codes, if◌then◌else◌}
use Rattle.std.specs.Str.{bytes_eq}
use Rattle.px_lex.specs.declared.token.Token.{Token}
use Rattle.px_value.specs.declared.schema.Schema.{Schema}
use Rattle.px_tree.specs.declared.Program.{Program}
use Rattle.px_tree.specs.declared.Class.{Class}
use Rattle.px_tree.specs.declared.FieldDecl.{FieldDecl}
use Rattle.px_tree.specs.declared.Method.{Method}
use Rattle.px_tree.specs.declared.Member.{Member}
use Rattle.px_tree.specs.declared.Member.TheVariants as member
use Rattle.px_type_rules.specs.declared.breach.Breach.{Breach}
use Rattle.px_type_rules.specs.declared.report.Report.{Report}
use Rattle.px_types.specs.declared.table.Table.{Table}
use Rattle.px_types.specs.declared.classes.Members.{Members}
use Rattle.px_types.specs.declared.classes.Classes.{Classes}
use Rattle.px_type_rules.specs.Breaches.{Note, OneMethod, breach_if, breaches, least}
use Rattle.px_types.specs.Names.{empty, declare, has_name, repeated, reserves}
use Rattle.px_types.specs.Members.{no_members, with_member, numbers_of, classes_of, names_no_class}
use Rattle.px_types.specs.Methods.{method_notes, entry_notes}

abbrev pub max_classes : ℕ
max_classes = 500

abbrev pub max_fields : ℕ
max_fields = 200

-- ---- names of classes and members

-- the classes' names, behind as many classes with these names
abbrev pub class_names : ℕ → Table ℕ → List Class → List Note
class_names number numbers [] = []
class_names number numbers (c ∷ cs) =
    repeated (has_name c.name.bytes numbers.names) c.name
    ++ (reserves c.name
    ++ (breach_if (not (nat_lt number max_classes)) c.name.token 17
    ++ class_names (number + 1) (declare c.name.bytes number numbers) cs))

-- a field, behind as many fields and these members
abbrev pub field_names : Table ℕ → ℕ → Members → FieldDecl → List Note
field_names numbers fields before f =
    repeated (has_name f.name.bytes before.fields.names) f.name
    ++ (reserves f.name
    ++ (breach_if (not (nat_lt fields max_fields)) f.name.token 17
    ++ names_no_class numbers f.ty.base))

abbrev pub method_names : Members → Method → List Note
method_names before m = OneMethod m.name.token ∷ repeated (has_name m.name.bytes before.methods.names) m.name

abbrev pub member_notes : Table ℕ → ℕ → Members → Member → List Note
member_notes numbers fields before (member.Field f) = field_names numbers fields before f
member_notes numbers fields before (member.Method m) = method_names before m

abbrev pub fields_with : ℕ → Member → ℕ
fields_with fields (member.Field f) = fields + 1
fields_with fields (member.Method m) = fields

abbrev pub members_notes : Table ℕ → ℕ → Members → List Member → List Note
members_notes numbers fields before [] = []
members_notes numbers fields before (m ∷ ms) = member_notes numbers fields before m ++ members_notes numbers (fields_with fields m) (with_member numbers before m) ms

-- the members of all classes
abbrev pub all_members : Table ℕ → List Class → List Note
all_members numbers [] = []
all_members numbers (c ∷ cs) = members_notes numbers 0 no_members c.members ++ all_members numbers cs

abbrev pub declared_notes : List Class → List Note
declared_notes classes = class_names 0 empty classes ++ all_members (numbers_of classes) classes

-- ---- bodies

abbrev pub member_body : Classes → ℕ → Member → List Note
member_body classes this (member.Field f) = []
member_body classes this (member.Method m) = method_notes classes this m

abbrev pub class_bodies : Classes → ℕ → List Member → List Note
class_bodies classes this [] = []
class_bodies classes this (m ∷ ms) = member_body classes this m ++ class_bodies classes this ms

-- the methods of all classes, the first of which has this number
abbrev pub bodies : Classes → ℕ → List Class → List Note
bodies classes this [] = []
bodies classes this (c ∷ cs) = class_bodies classes this c.members ++ bodies classes (this + 1) cs

-- ---- entries

abbrev pub member_entry : Table ℕ → Member → List Note
member_entry numbers (member.Field f) = []
member_entry numbers (member.Method m) = entry_notes numbers m

abbrev pub entries : Table ℕ → List Member → List Note
entries numbers [] = []
entries numbers (m ∷ ms) = member_entry numbers m ++ entries numbers ms

-- the number of the last token, the end of the text; numbers of tokens have 32 bits
abbrev pub end_token : List Token → ℕ
end_token tokens = if nat_lt (length tokens - 1) 4294967295 then length tokens - 1 else 4294967295

-- rule 14: there is a class Main; with two the entries are the first's
abbrev pub main_notes : Table ℕ → ℕ → List Class → List Note
main_notes numbers end [] = breach_if true end 14
main_notes numbers end (c ∷ cs) = if bytes_eq c.name.bytes (codes "Main") then entries numbers c.members else main_notes numbers end cs

-- ---- programs

-- nothing is found yet
abbrev pub no_report : Report
no_report = record { first = None; news = 0; methods = 0 }

-- what is found in a program over these tables
abbrev pub notes_of : Schema → Program → List Note
notes_of schema program =
    let classes = classes_of schema program.classes in
    declared_notes program.classes
    ++ (main_notes classes.numbers (end_token program.tokens) program.classes
    ++ bodies classes 0 program.classes)

-- all breaches of a program
abbrev pub breaches_of : Schema → Program → List Breach
breaches_of schema program = breaches 0 0 (notes_of schema program)

-- the breach at the first token, and there the one with the smallest code
unfoldable pub first_breach_of : Schema → Program → Option Breach
first_breach_of schema program = least None (breaches_of schema program)
