-- What a check tells of a program: the line and the code of its first breach, or all that is known of it.
use Rattle.std.specs.Prelude.{ℕ, List, Option, Some, None, map, slice_get}
use Rattle.std.specs.Option.{option_map}
use Rattle.px_lex.specs.declared.token.Token.{Token}
use Rattle.px_value.specs.declared.schema.Schema.{Schema}
use Rattle.px_tree.specs.declared.Program.{Program}
use Rattle.px_tree.specs.declared.Class.{Class}
use Rattle.px_type_rules.specs.declared.breach.Breach.{Breach}
use Rattle.px_facts.specs.declared.types.Ty.{Ty}
use Rattle.px_types.specs.declared.classes.FieldType.{FieldType}
use Rattle.px_types.specs.declared.classes.Members.{Members}
use Rattle.px_facts.specs.declared.checked.ClassFact.{ClassFact}
use Rattle.px_facts.specs.declared.checked.Facts.{Facts}
use Rattle.px_facts.specs.declared.checked.Main.{Main}
use Rattle.px_types.specs.declared.bodies.Known.{Known}
use Rattle.px_types.specs.declared.bodies.Numbered.{Numbered}
use Rattle.px_types.specs.declared.home.Home.{Home}
use Rattle.px_facts.specs.declared.checked.Checked.{Checked}
use Rattle.px_types.specs.declared.error.CheckError.{CheckError}
use Rattle.px_types.specs.declared.error.CheckError.TheVariants.{TypeFault}
use Rattle.px_types.specs.Programs.{first_breach_of}
use Rattle.px_types.specs.Bodies.{Found, home_of, all_found}
use Rattle.px_types.specs.Sites.{sited, operations_in}
use Rattle.px_types.specs.Entries.{main_from}

-- ---- the fault

-- a tree of a text has all its tokens
abbrev pub line_in : Option Token → ℕ
line_in None = 0
line_in (Some token) = token.line

abbrev pub fault_at : List Token → Breach → CheckError
fault_at tokens b = TypeFault (line_in (slice_get tokens b.token)) b.code

-- the first breach, with its line
abbrev pub fault_of : Program → Schema → Option CheckError
fault_of program schema = option_map (fault_at program.tokens) (first_breach_of schema program)

-- ---- the facts

abbrev pub type_in : FieldType → Ty
type_in f = f.ty

abbrev pub class_known : Members → ClassFact
class_known ms = record { fields = map type_in ms.fields.values }

-- with the numbers of sites and of calls of `Db`
abbrev pub numbered : Known → Numbered
numbered known = record { nodes = sited 1 1 known.nodes; methods = known.methods; operations = operations_in known.nodes }

abbrev pub known_from : Found → Known
known_from found = record { nodes = found.nodes; methods = found.methods }

-- the methods of all classes, and what is in them
abbrev pub known_in : Home → List Class → Numbered
known_in home classes = numbered (known_from (all_found home classes))

abbrev pub with_known : Numbered → List ClassFact → Main → Facts
with_known known classes main = record {
  nodes = known.nodes;
  classes = classes;
  methods = known.methods;
  operations = known.operations;
  main = main;
}

abbrev pub facts_in : Home → List Class → Facts
facts_in home classes = with_known (known_in home classes) (map class_known home.classes.members) (main_from home.classes.numbers home.firsts 0 classes)

unfoldable pub facts_of : Schema → Program → Facts
facts_of schema program = facts_in (home_of schema program.classes) program.classes

-- the schema is that of the tables which the program declares
abbrev pub checked_of : Program → Schema → Checked
checked_of program schema = record { program = program; schema = schema; facts = facts_of schema program }
