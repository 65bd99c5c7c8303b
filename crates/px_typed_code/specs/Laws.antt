-- What is promised of the code of a typed program.
use Rattle.std.specs.Prelude.{◌≡◌, ℕ, suc, true, List, ◌∷◌, length, Option, Some, None, slice_get, ◌++◌, map, option_map}
use Rattle.px_value.specs.declared.header.Kind.{Kind}
use Rattle.px_value.specs.declared.header.Kind.TheVariants as kind
use Rattle.px_value.specs.declared.ty.Ty.{Ty as Outer}
use Rattle.px_tree.specs.declared.Method.{Method}
use Rattle.px_facts.specs.declared.types.Ty.{Ty}
use Rattle.px_facts.specs.declared.checked.Checked.{Checked}
use Rattle.px_facts.specs.declared.checked.Facts.{Facts}
use Rattle.px_facts.specs.declared.checked.ClassFact.{ClassFact}
use Rattle.px_facts.specs.declared.checked.MethodFact.{MethodFact}
use Rattle.px_facts.specs.declared.checked.Entry.{Entry}
use Rattle.px_facts.specs.declared.checked.Named.{Named}
use Rattle.px_facts.specs.declared.checked.Named.TheVariants as named
use Rattle.px_facts.specs.declared.operation.Operation.{Operation}
use Rattle.px_mean.specs.Facts.{type_at, named_at, by_number, fields_of}
use Rattle.px_mean.specs.Program.{methods_of, source_from}
use Rattle.px_mean.specs.Typing.{IsTyped as IsTypedSource, inner_type}
use Rattle.px_normal.specs.declared.ty.Ty.{Ty as CodeTy}
use Rattle.px_normal.specs.declared.ty.Ty.TheVariants as code_ty
use Rattle.px_normal.specs.declared.method.Method.{Method as CodeMethod}
use Rattle.px_normal.specs.declared.code.Code.{Code}
use Rattle.px_normal.specs.First.{numbered}
use Rattle.px_normal.specs.Typed.{IsTyped}
use Rattle.px_lowering.specs.declared.allocations.Allocation.{Allocation}
use Rattle.px_lowering.specs.Allocations.{kind_of}
use Rattle.px_lowering.specs.Programs.{allocations, is_public, is_entry, lowered}
use Rattle.px_lowering.specs.Types.{code_type}
use Rattle.px_preservation.specs.Laws.{AreKnown}
use Rattle.px_uses.specs.Uses.{AreUsed}
use Rattle.px_typed_code.specs.Values.{is_value, is_result}

-- ---- sites

-- the number of the site of what allocates
abbrev pub site_of : Named → Option ℕ
site_of (named.NewObject class site) = Some site
site_of (named.NewArray site) = Some site
site_of (named.Query number site) = Some site
site_of n = None

-- what a site makes is known
abbrev pub IsKnownClass : Facts → ℕ → Type 0
IsKnownClass F class = (c : ClassFact) × (slice_get F.classes class ≡ Some c)

abbrev pub IsKnownElement : Facts → ℕ → Type 0
IsKnownElement F (suc (suc (suc (suc class)))) = IsKnownClass F class
IsKnownElement F number = Unit {0}

abbrev pub IsKnownKind : Facts → Kind → Type 0
IsKnownKind F (kind.Object class) = IsKnownClass F class
IsKnownKind F (kind.Array number) = IsKnownElement F number
IsKnownKind F (kind.Rows number) = (o : Operation) × (by_number F.operations number ≡ Some o)

-- What typed code asks of the facts of a program beside the typing rules.
pub record AreUsedWell (P : Checked) : Type 0 where
  -- all fields are known
  pub classes : AreKnown P.program.classes P.facts.classes
  -- a field has a type of values
  pub fields : (class place : ℕ) (t : Ty) → slice_get (fields_of P.facts class) place ≡ Some t → is_value t ≡ true
  -- so has each slot, and a result unless it is void
  pub slots : (number place : ℕ) (fact : MethodFact) (t : Ty) → by_number P.facts.methods number ≡ Some fact → slice_get fact.slots place ≡ Some t → is_value t ≡ true
  pub results : (number : ℕ) (fact : MethodFact) → by_number P.facts.methods number ≡ Some fact → is_result fact.result ≡ true
  -- the class of each method is known, and so is the main class
  pub owners : (number : ℕ) (fact : MethodFact) → by_number P.facts.methods number ≡ Some fact → IsKnownClass P.facts fact.class
  pub main : IsKnownClass P.facts P.facts.main.class
  -- the parts of each body are used as the type rules say
  pub bodies : (number : ℕ) (m : Method) (fact : MethodFact) → by_number (methods_of P.program.classes) number ≡ Some m → by_number P.facts.methods number ≡ Some fact → AreUsed P.facts fact.result m.body
  -- the numbers of sites are those of the allocations in the text
  pub sites : (id site : ℕ) (k : Kind) → site_of (named_at P.facts id) ≡ Some site → kind_of (named_at P.facts id) (type_at P.facts id) ≡ Some k → (a : Allocation) × (by_number (allocations P.facts 1 (methods_of P.program.classes)) site ≡ Some a) × (a.kind ≡ k)
  pub kinds : (place : ℕ) (a : Allocation) → slice_get (allocations P.facts 1 (methods_of P.program.classes)) place ≡ Some a → IsKnownKind P.facts a.kind
  -- each public method of the main class is an entry
  pub entries : (number : ℕ) (m : Method) (fact : MethodFact) → by_number (methods_of P.program.classes) number ≡ Some m → by_number P.facts.methods number ≡ Some fact → is_entry m.access fact.class P.facts.main.class ≡ true → (place : ℕ) × (entry : Entry) × (slice_get P.facts.main.entries place ≡ Some entry) × (entry.method ≡ number)

-- Lowering makes typed code.
abbrev pub LoweredIsTyped : Type 0
LoweredIsTyped = (P : Checked) → IsTypedSource (source_from P) → AreUsedWell P → IsTyped (lowered P)

-- ---- entries

-- a type of a job's, as code has it
abbrev pub entry_type : Outer → CodeTy
entry_type t = code_type (inner_type t)

-- an entry is a method that jobs may call, with its parameters and its result
pub record IsEntryOf (code : Code) (e : Entry) : Type 0 where
  pub method : CodeMethod
  pub is : numbered code.methods e.method ≡ Some method
  pub entry : method.entry ≡ true
  pub params : method.params ≡ length e.params
  pub behind : List CodeTy
  pub slots : method.slots ≡ code_ty.Object code.main ∷ (map entry_type e.params ++ behind)
  pub gives : method.gives ≡ option_map entry_type e.gives

-- an entry is a public method
abbrev pub ArePublic : Checked → Type 0
ArePublic P = (place : ℕ) (entry : Entry) (m : Method) → slice_get P.facts.main.entries place ≡ Some entry → by_number (methods_of P.program.classes) entry.method ≡ Some m → is_public m.access ≡ true

abbrev pub EntriesAreMethods : Type 0
EntriesAreMethods = (P : Checked) → IsTypedSource (source_from P) → AreUsedWell P → ArePublic P → (place : ℕ) (entry : Entry) → slice_get P.facts.main.entries place ≡ Some entry → IsEntryOf (lowered P) entry
