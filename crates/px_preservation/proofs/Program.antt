-- What stands in new objects, which statements there are, and which methods, of a program and of its code.
use Rattle.std.proofs.Common.{◌≡◌, ℕ, zero, suc, ◌+◌, List, [], ◌∷◌, ◌++◌, length, map, Option, Some, None, slice_get, refl, arith}
use Rattle.px_tree.specs.declared.Class.{Class}
use Rattle.px_tree.specs.declared.Member.{Member}
use Rattle.px_tree.specs.declared.Member.TheVariants as member
use Rattle.px_tree.specs.declared.Method.{Method}
use Rattle.px_facts.specs.declared.types.Ty.{Ty as Static}
use Rattle.px_facts.specs.declared.types.Ty.TheVariants as static
use Rattle.px_facts.specs.declared.operation.Operation.{Operation}
use Rattle.px_facts.specs.declared.checked.ClassFact.{ClassFact}
use Rattle.px_facts.specs.declared.checked.MethodFact.{MethodFact}
use Rattle.px_facts.specs.declared.checked.Checked.{Checked}
use Rattle.px_mean.specs.Facts as source
use Rattle.px_mean.specs.Facts.{default_of, fields_of, by_number}
use Rattle.px_mean.specs.Effects.{statement_in, statements_of}
use Rattle.px_mean.specs.Program.{methods_of}
use Rattle.px_normal.specs.declared.node.Node.{Node}
use Rattle.px_normal.specs.declared.method.Method.{Method as CodeMethod}
use Rattle.px_normal.specs.declared.code.Code.{Code}
use Rattle.px_normal.specs.First.{field_default, fresh_of, numbered}
use Rattle.px_normal.specs.First as first
use Rattle.px_lowering.specs.Types.{code_type}
use Rattle.px_lowering.specs.Programs.{field_node, method_of, lowered_body, lowered_methods, lowered_fields, lowered_classes, statement_of, lowered}
use Rattle.px_preservation.specs.Laws.{fields_in, AreKnown}

-- the code makes the same new objects, and asks the same statements
pub record SameProgram (P : Checked) (code : Code) : Type 0 where
  pub fresh : (class : ℕ) → fresh_of code class ≡ map default_of (fields_of P.facts class)
  pub statements : (number : ℕ) → first.statements_of code number ≡ statements_of P.facts number

-- as functions
pub same_statements : (P : Checked) (code : Code) → SameProgram P code → first.statements_of code ≡ statements_of P.facts
same_statements P code h = λ i number. h.statements number i

-- ---- defaults

pub same_default : (t : Static) → first.default_of (code_type t) ≡ default_of t
same_default static.Int = refl
same_default static.Long = refl
same_default static.Boolean = refl
same_default (static.Object class) = refl
same_default (static.Array element) = refl
same_default static.ResultSet = refl
same_default static.Text = refl
same_default static.Null = refl
same_default static.Void = refl
same_default static.Unknown = refl

suc_same : (m n : ℕ) → suc m ≡ suc n → m ≡ n
suc_same m n h = omega (arith, h)

module _ (P : Checked) where
  same_fields : (ms : List Member) (types : List Static) (nodes : List Node) → length (fields_in ms) ≡ length types → map field_default (lowered_fields P ms types nodes).fields ≡ map default_of types
  same_fields [] [] nodes h = refl
  same_fields [] (t ∷ types) nodes h = absurd (omega (arith, h))
  same_fields (member.Method m ∷ ms) types nodes h = same_fields ms types nodes h
  same_fields (member.Field f ∷ ms) [] nodes h = absurd (omega (arith, h))
  same_fields (member.Field f ∷ ms) (t ∷ types) nodes h = λ i. same_default t i ∷ same_fields ms types (nodes ++ field_node P f ∷ []) (suc_same (length (fields_in ms)) (length types) h) i

  same_classes : (cs : List Class) (facts : List ClassFact) (nodes : List Node) → AreKnown cs facts → (class : ℕ) → map field_default (first.fields_in (slice_get (lowered_classes P cs facts nodes).classes class)) ≡ map default_of (source.fields_in (slice_get facts class))
  same_classes [] [] nodes h class = refl
  same_classes [] (fact ∷ facts) nodes h class = absurd h
  same_classes (c ∷ cs) [] nodes h class = absurd h
  same_classes (c ∷ cs) (fact ∷ facts) nodes h zero = same_fields c.members fact.fields nodes h.0
  same_classes (c ∷ cs) (fact ∷ facts) nodes h (suc class) = same_classes cs facts (lowered_fields P c.members fact.fields nodes).nodes h.1 class

  same_statement : (os : List Operation) (i : ℕ) → slice_get (map statement_of os) i ≡ statement_in (slice_get os i)
  same_statement [] i = refl
  same_statement (o ∷ os) zero = refl
  same_statement (o ∷ os) (suc i) = same_statement os i

  same_by_number : (os : List Operation) (number : ℕ) → numbered (map statement_of os) number ≡ statement_in (by_number os number)
  same_by_number os zero = refl
  same_by_number os (suc i) = same_statement os i

  pub same_program : AreKnown P.program.classes P.facts.classes → SameProgram P (lowered P)
  unfolding lowered
  same_program h = record {
    fresh = λ class. same_classes P.program.classes P.facts.classes (lowered_methods P 1 (methods_of P.program.classes) P.facts.methods []).nodes h class;
    statements = λ number. same_by_number P.facts.operations number;
  }

  -- ---- methods

  -- a method of the code, which is there where the method and what is known of it are
  pub data IsMethod : Option Method → Option MethodFact → Option CodeMethod → Type 0 where
    there : (m : Method) (fact : MethodFact) (number : ℕ) (nodes : List Node) → IsMethod (Some m) (Some fact) (Some (method_of P m fact (length nodes) (lowered_body P number m fact nodes)))
    no_method : (fact : Option MethodFact) → IsMethod None fact None
    no_fact : (m : Option Method) → IsMethod m None None

  method_at : (number : ℕ) (ms : List Method) (facts : List MethodFact) (nodes : List Node) (i : ℕ) → IsMethod (slice_get ms i) (slice_get facts i) (slice_get (lowered_methods P number ms facts nodes).methods i)
  method_at number [] facts nodes i = no_method (slice_get facts i)
  method_at number (m ∷ ms) [] nodes i = no_fact (slice_get (m ∷ ms) i)
  method_at number (m ∷ ms) (fact ∷ facts) nodes zero = there m fact number nodes
  method_at number (m ∷ ms) (fact ∷ facts) nodes (suc i) = method_at (number + 1) ms facts (lowered_body P number m fact nodes).nodes i

  pub method_of_code : (method : ℕ) → IsMethod (by_number (methods_of P.program.classes) method) (by_number P.facts.methods method) (numbered (lowered P).methods method)
  unfolding lowered
  method_of_code zero = no_method None
  method_of_code (suc i) = method_at 1 (methods_of P.program.classes) P.facts.methods [] i
