-- What is known of methods, and of the statements and expressions in them.
use Rattle.std.specs.Prelude.{ℕ, ◌+◌, List, [], ◌∷◌, ◌++◌, map, length}
use Rattle.px_tree.specs.declared.Param.{Param}
use Rattle.px_tree.specs.declared.Method.{Method}
use Rattle.px_tree.specs.declared.Member.{Member}
use Rattle.px_tree.specs.declared.Member.TheVariants as member
use Rattle.px_tree.specs.declared.Class.{Class}
use Rattle.px_types.specs.declared.table.Table.{Table}
use Rattle.px_types.specs.declared.classes.Members.{Members}
use Rattle.px_value.specs.declared.schema.Schema.{Schema}
use Rattle.px_types.specs.declared.node.Node.{Node}
use Rattle.px_facts.specs.declared.checked.MethodFact.{MethodFact}
use Rattle.px_types.specs.declared.home.Home.{Home}
use Rattle.px_types.specs.declared.scope.Scope.{Scope}
use Rattle.px_types.specs.Members.{classes_of, param_type, result_type}
use Rattle.px_types.specs.Slots.{first_scope, with_slot}
use Rattle.px_types.specs.Told.{Told, told}

-- the number of the first method of each class, where the first of all has this number
abbrev pub firsts_from : ℕ → List Members → List ℕ
firsts_from first [] = []
firsts_from first (ms ∷ all) = first ∷ firsts_from (first + length ms.methods.names) all

abbrev pub home_of : Schema → List Class → Home
home_of schema classes = record { classes = classes_of schema classes; firsts = firsts_from 1 (classes_of schema classes).members; this = 0 }

-- the parameters, behind the locals in scope
abbrev pub with_params : Table ℕ → Scope → List Param → Scope
with_params numbers scope [] = scope
with_params numbers scope (p ∷ ps) = with_params numbers (with_slot p.name.bytes (param_type numbers p) scope) ps

abbrev pub told_body : Home → Method → Told
told_body home m = told home m.body (with_params home.classes.numbers (first_scope home.this) m.params)

abbrev pub method_known : Home → Method → MethodFact
method_known home m = record {
  class = home.this;
  params = map (param_type home.classes.numbers) m.params;
  result = result_type home.classes.numbers m.gives;
  slots = (told_body home m).scope.slots;
}

-- what is known of members, classes and what is in them
pub record Found : Type 0 where
  pub nodes : List Node
  pub methods : List MethodFact

abbrev pub nothing_found : Found
nothing_found = record { nodes = []; methods = [] }

abbrev pub both : Found → Found → Found
both a b = record { nodes = a.nodes ++ b.nodes; methods = a.methods ++ b.methods }

abbrev pub member_found : Home → Member → Found
member_found home (member.Field f) = nothing_found
member_found home (member.Method m) = record { nodes = (told_body home m).nodes; methods = method_known home m ∷ [] }

abbrev pub class_found : Home → List Member → Found
class_found home [] = nothing_found
class_found home (m ∷ ms) = both (member_found home m) (class_found home ms)

abbrev pub next_class : Home → Home
next_class home = record home { this = home.this + 1 }

-- the classes from this one on
abbrev pub all_found : Home → List Class → Found
all_found home [] = nothing_found
all_found home (c ∷ cs) = both (class_found home c.members) (all_found (next_class home) cs)
