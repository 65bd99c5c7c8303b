-- What names stand for in a program that keeps the rules (JLS 6.5).
use Rattle.std.specs.Prelude.{ℕ, zero, suc, ◌+◌, List, Option, Some, None, slice_get}
use Rattle.std.specs.Option.{option_and_then}
use Rattle.px_facts.specs.declared.types.Ty.{Ty}
use Rattle.px_facts.specs.declared.types.Ty.TheVariants as ty
use Rattle.px_types.specs.declared.classes.Members.{Members}
use Rattle.px_types.specs.declared.classes.Classes.{Classes}
use Rattle.px_facts.specs.declared.checked.Named.{Named}
use Rattle.px_facts.specs.declared.checked.Named.TheVariants.{Nothing, Local, Field, Method, NewObject, NewArray, ArrayLength, TextLength, TextEquals, Database, Query, Update, Next, GetLong, GetString}
use Rattle.px_facts.specs.declared.checked.Fact.{Fact}
use Rattle.px_types.specs.declared.database.Verb.{Verb}
use Rattle.px_types.specs.declared.database.Verb.TheVariants as verb
use Rattle.px_types.specs.declared.home.Home.{Home}
use Rattle.px_types.specs.declared.scope.Slot.{Slot}
use Rattle.px_types.specs.declared.scope.Scope.{Scope}
use Rattle.px_types.specs.Names.{place_of, find}
use Rattle.px_types.specs.Members.{members_of, field_of, method_of}
use Rattle.px_types.specs.Expressions.{found_type, result_of}
use Rattle.px_types.specs.Slots.{slot_of}

-- an expression that names nothing
abbrev pub typed_only : Ty → Fact
typed_only t = record { ty = t; named = Nothing }

-- a statement that writes no local
abbrev pub no_fact : Fact
no_fact = typed_only ty.Void

-- ---- locals

abbrev pub local_fact : Ty → ℕ → Fact
local_fact t slot = record { ty = t; named = Local slot }

-- the local that is changed in place
abbrev pub changed_fact : Option Slot → Fact
changed_fact None = no_fact
changed_fact (Some s) = local_fact s.ty s.number

-- ---- fields

abbrev pub field_place : Ty → List ℕ → Classes → Option ℕ
field_place of name classes = option_and_then (λ (ms : Members). place_of name ms.fields.names) (members_of of classes)

-- an array's only field is its length (JLS 10.7)
abbrev pub field_in : Ty → ℕ → Named
field_in (ty.Object class) place = Field class place
field_in (ty.Array e) place = ArrayLength
field_in _ place = Nothing

abbrev pub field_at : Ty → Option ℕ → Named
field_at of None = Nothing
field_at of (Some place) = field_in of place

-- a field of a value of this type
abbrev pub field_fact : Home → Ty → List ℕ → Fact
field_fact home of name = record { ty = found_type (field_of of name home.classes); named = field_at of (field_place of name home.classes) }

-- a local shadows a field of its name (JLS 6.4.1)
abbrev pub local_or : Option Slot → Fact → Fact
local_or None field = field
local_or (Some s) field = local_fact s.ty s.number

abbrev pub variable_fact : Home → Scope → List ℕ → Fact
variable_fact home scope name = local_or (slot_of name scope) (field_fact home (ty.Object home.this) name)

-- ---- methods

abbrev pub method_place : Ty → List ℕ → Classes → Option ℕ
method_place of name classes = option_and_then (λ (ms : Members). place_of name ms.methods.names) (members_of of classes)

-- the number of a class's method, from the number of its first
abbrev pub numbered_method : Option ℕ → ℕ → Named
numbered_method None place = Nothing
numbered_method (Some first) place = Method (first + place)

-- a result set's methods are `next`, `getLong` and `getString`, in this order
abbrev pub rows_method : ℕ → Named
rows_method zero = Next
rows_method (suc zero) = GetLong
rows_method (suc (suc n)) = GetString

-- a String's methods are `length` and `equals`, in this order
abbrev pub text_method : ℕ → Named
text_method zero = TextLength
text_method (suc n) = TextEquals

abbrev pub method_in : Home → Ty → ℕ → Named
method_in home (ty.Object class) place = numbered_method (slice_get home.firsts class) place
method_in home ty.Text place = text_method place
method_in home ty.ResultSet place = rows_method place
method_in home _ place = Nothing

abbrev pub method_at : Home → Ty → Option ℕ → Named
method_at home of None = Nothing
method_at home of (Some place) = method_in home of place

-- a call of a method of a value of this type
abbrev pub method_fact : Home → Ty → List ℕ → Fact
method_fact home of name = record { ty = result_of (method_of of name home.classes); named = method_at home of (method_place of name home.classes) }

-- ---- `new`; its number is given once all facts are known

abbrev pub new_of : Option ℕ → Fact
new_of None = typed_only ty.Unknown
new_of (Some class) = record { ty = ty.Object class; named = NewObject class 0 }

abbrev pub new_fact : Home → List ℕ → Fact
new_fact home name = new_of (find name home.classes.numbers)

abbrev pub new_array_fact : Ty → Fact
new_array_fact t = record { ty = t; named = NewArray 0 }

-- ---- calls of `Db`; their numbers are given once all facts are known

abbrev pub database_fact : Fact
database_fact = record { ty = ty.Unknown; named = Database }

abbrev pub verb_fact : Verb → Fact
verb_fact verb.Query = record { ty = ty.ResultSet; named = Query 0 0 }
verb_fact verb.Update = record { ty = ty.Int; named = Update 0 }
