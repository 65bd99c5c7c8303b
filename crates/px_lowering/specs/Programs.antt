-- Methods, fields, sites and the whole program.
use Rattle.std.specs.Prelude.{ℕ, ◌+◌, nat_eq, Bool, true, false, ◌&&◌, List, [], ◌∷◌, ◌++◌, length, map, drop, Option, Some, None}
use Rattle.px_value.specs.declared.header.Kind.{Kind}
use Rattle.px_value.specs.declared.header.Kind.TheVariants as kind
use Rattle.px_value.specs.declared.statement.Statement.{Statement}
use Rattle.px_tree.specs.declared.Class.{Class}
use Rattle.px_tree.specs.declared.Member.{Member}
use Rattle.px_tree.specs.declared.Member.TheVariants as member
use Rattle.px_tree.specs.declared.Method.{Method}
use Rattle.px_tree.specs.declared.FieldDecl.{FieldDecl}
use Rattle.px_tree.specs.declared.Access.{Access}
use Rattle.px_tree.specs.declared.Access.TheVariants.{Public}
use Rattle.px_facts.specs.declared.types.Ty.{Ty as Static}
use Rattle.px_facts.specs.declared.checked.Checked.{Checked}
use Rattle.px_facts.specs.declared.checked.Facts.{Facts}
use Rattle.px_facts.specs.declared.checked.ClassFact.{ClassFact}
use Rattle.px_facts.specs.declared.checked.MethodFact.{MethodFact}
use Rattle.px_facts.specs.declared.operation.Operation.{Operation}
use Rattle.px_mean.specs.Program.{methods_of}
use Rattle.px_normal.specs.declared.word.Word.TheVariants as w
use Rattle.px_normal.specs.declared.class.Class.{Class as CodeClass}
use Rattle.px_normal.specs.declared.class.Field.{Field}
use Rattle.px_normal.specs.declared.method.Method.{Method as CodeMethod}
use Rattle.px_normal.specs.declared.node.Node.{Node}
use Rattle.px_normal.specs.declared.node.NodeKind.TheVariants as node
use Rattle.px_normal.specs.declared.node.Counter.TheVariants.{Entered, ReachedEnd}
use Rattle.px_normal.specs.declared.code.Code.{Code}
use Rattle.px_normal.specs.declared.code.Site.{Site}
use Rattle.px_normal.specs.declared.ty.Ty.{Ty}
use Rattle.px_normal.specs.declared.ty.Ty.TheVariants as ty
use Rattle.px_lowering.specs.declared.draft.Draft.{Draft}
use Rattle.px_lowering.specs.declared.allocations.Allocation.{Allocation}
use Rattle.px_lowering.specs.Types.{code_type, code_result}
use Rattle.px_lowering.specs.Emit.{line_of, emitted}
use Rattle.px_lowering.specs.Statements.{completes, low_stmt}
use Rattle.px_lowering.specs.Allocations.{in_statement}

-- ---- methods

abbrev pub method_node : Checked → ℕ → Method → Node
method_node P number m = record { kind = node.Method; line = line_of P m.name.token; method = Some number; counter = Some (Entered number) }

-- `this`, the parameters and the locals
abbrev pub first_types : MethodFact → List Ty
first_types fact = ty.Object fact.class ∷ map code_type (drop 1 fact.slots)

-- before the body
abbrev pub begun : Checked → ℕ → Method → MethodFact → List Node → Draft
begun P number m fact nodes = record { method = number; trees = []; nodes = nodes ++ method_node P number m ∷ []; slots = first_types fact }

-- a body that can reach its end returns there
abbrev pub ended : Checked → Method → Bool → Draft → Draft
ended P m true o = emitted P (w.Return None) m.name.token (ReachedEnd o.method) o
ended P m false o = o

abbrev pub lowered_body : Checked → ℕ → Method → MethodFact → List Node → Draft
lowered_body P number m fact nodes = ended P m (completes m.body) (low_stmt P fact.result m.body (begun P number m fact nodes))

abbrev pub is_public : Access → Bool
is_public Public = true
is_public _ = false

abbrev pub is_entry : Access → (class main : ℕ) → Bool
is_entry access class main = is_public access && nat_eq class main

-- the method, of which the node comes behind so many others
abbrev pub method_of : Checked → Method → MethodFact → ℕ → Draft → CodeMethod
method_of P m fact before o = record {
  class = fact.class;
  name = m.name.bytes;
  node = before + 1;
  entry = is_entry m.access fact.class P.facts.main.class;
  params = length fact.params;
  gives = code_result fact.result;
  slots = o.slots;
  body = o.trees;
}

pub record Methods : Type 0 where
  pub methods : List CodeMethod
  pub nodes : List Node

abbrev pub one_more : CodeMethod → Methods → Methods
one_more m rest = record rest { methods = m ∷ rest.methods }

-- methods, numbered from `number` on, as far as they are known
abbrev pub lowered_methods : Checked → ℕ → List Method → List MethodFact → List Node → Methods
lowered_methods P number [] facts nodes = record { methods = []; nodes = nodes }
lowered_methods P number (m ∷ ms) [] nodes = record { methods = []; nodes = nodes }
lowered_methods P number (m ∷ ms) (fact ∷ facts) nodes =
    let o = lowered_body P number m fact nodes in
    one_more (method_of P m fact (length nodes) o) (lowered_methods P (number + 1) ms facts o.nodes)

-- ---- fields

abbrev pub field_node : Checked → FieldDecl → Node
field_node P f = record { kind = node.Field; line = line_of P f.name.token; method = None; counter = None }

-- a field, whose node comes behind so many others
abbrev pub field_of : FieldDecl → Static → ℕ → Field
field_of f t before = record { name = f.name.bytes; ty = code_type t; node = before + 1 }

pub record Fields : Type 0 where
  pub fields : List Field
  pub nodes : List Node

abbrev pub one_field : Field → Fields → Fields
one_field f rest = record rest { fields = f ∷ rest.fields }

-- the fields among these members, as far as their types are known
abbrev pub lowered_fields : Checked → List Member → List Static → List Node → Fields
lowered_fields P [] types nodes = record { fields = []; nodes = nodes }
lowered_fields P (member.Method m ∷ ms) types nodes = lowered_fields P ms types nodes
lowered_fields P (member.Field f ∷ ms) [] nodes = record { fields = []; nodes = nodes }
lowered_fields P (member.Field f ∷ ms) (t ∷ types) nodes = one_field (field_of f t (length nodes)) (lowered_fields P ms types (nodes ++ field_node P f ∷ []))

pub record Classes : Type 0 where
  pub classes : List CodeClass
  pub nodes : List Node

abbrev pub one_class : CodeClass → Classes → Classes
one_class c rest = record rest { classes = c ∷ rest.classes }

abbrev pub class_of : Class → Fields → CodeClass
class_of c f = record { name = c.name.bytes; fields = f.fields }

-- classes, as far as they are known
abbrev pub lowered_classes : Checked → List Class → List ClassFact → List Node → Classes
lowered_classes P [] facts nodes = record { classes = []; nodes = nodes }
lowered_classes P (c ∷ cs) [] nodes = record { classes = []; nodes = nodes }
lowered_classes P (c ∷ cs) (fact ∷ facts) nodes =
    let f = lowered_fields P c.members fact.fields nodes in
    one_class (class_of c f) (lowered_classes P cs facts f.nodes)

-- ---- sites

-- of the methods from `number` on
abbrev pub allocations : Facts → ℕ → List Method → List Allocation
allocations F number [] = []
allocations F number (m ∷ ms) = in_statement F number m.body ++ allocations F (number + 1) ms

abbrev pub site_node : Checked → Allocation → Node
site_node P a = record { kind = node.Site; line = line_of P a.token; method = Some a.method; counter = None }

pub record Sites : Type 0 where
  pub sites : List Site
  pub nodes : List Node

abbrev pub site : Kind → Option ℕ → Site
site k place = record { kind = k; node = place }

abbrev pub element_site : Checked → Allocation → Kind → List Node → List Site → Sites
element_site P a k nodes before = record { sites = before ++ site k (Some (length nodes + 1)) ∷ []; nodes = nodes ++ site_node P a ∷ [] }

-- the site of this kind behind others; that of an object has no node
abbrev pub with_site : Checked → Allocation → Kind → List Node → List Site → Sites
with_site P a (kind.Object class) nodes before = record { sites = before ++ site (kind.Object class) None ∷ []; nodes = nodes }
with_site P a (kind.Array element) nodes before = element_site P a (kind.Array element) nodes before
with_site P a (kind.Rows number) nodes before = element_site P a (kind.Rows number) nodes before

abbrev pub lowered_sites : Checked → List Allocation → List Node → List Site → Sites
lowered_sites P [] nodes before = record { sites = before; nodes = nodes }
lowered_sites P (a ∷ more) nodes before = let s = with_site P a a.kind nodes before in lowered_sites P more s.nodes s.sites

-- ---- the program

abbrev pub statement_of : Operation → Statement
statement_of operation = operation.statement

unfoldable pub lowered : Checked → Code
lowered P =
    let made = lowered_methods P 1 (methods_of P.program.classes) P.facts.methods [] in
    let kinds = lowered_classes P P.program.classes P.facts.classes made.nodes in
    let places = lowered_sites P (allocations P.facts 1 (methods_of P.program.classes)) kinds.nodes [] in
    record {
      main = P.facts.main.class;
      classes = kinds.classes;
      methods = made.methods;
      sites = places.sites;
      nodes = places.nodes;
      schema = P.schema;
      statements = map statement_of P.facts.operations;
    }
