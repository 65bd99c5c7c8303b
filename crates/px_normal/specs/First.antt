-- What stands in a new object and in a new frame.
use Rattle.std.specs.Prelude.{ℕ, zero, suc, false, List, [], ◌∷◌, map, Option, Some, None, slice_get, pos}
use Rattle.px_value.specs.declared.value.Value.{Value}
use Rattle.px_value.specs.declared.value.Value.TheVariants.{Int, Long, Bool as Truth, Null}
use Rattle.px_normal.specs.declared.ty.Ty.{Ty}
use Rattle.px_normal.specs.declared.ty.Ty.TheVariants as ty
use Rattle.px_normal.specs.declared.class.Class.{Class}
use Rattle.px_normal.specs.declared.class.Field.{Field}
use Rattle.px_normal.specs.declared.method.Method.{Method}
use Rattle.px_normal.specs.declared.code.Code.{Code}
use Rattle.px_effects.specs.Cells.{Fresh}
use Rattle.px_effects.specs.Rows.{Statements}

-- numbered from 1
abbrev pub numbered : {A : Type 0} → List A → ℕ → Option A
numbered xs zero = None
numbered xs (suc n) = slice_get xs n

-- what a field or a slot holds before it is written (JLS 4.12.5)
abbrev pub default_of : Ty → Value
default_of ty.Int = Int (pos 0)
default_of ty.Long = Long (pos 0)
default_of ty.Bool = Truth false
default_of _ = Null

-- ---- objects

abbrev pub fields_in : Option Class → List Field
fields_in None = []
fields_in (Some class) = class.fields

abbrev pub fields_of : Code → ℕ → List Field
fields_of code class = fields_in (slice_get code.classes class)

abbrev pub field_default : Field → Value
field_default f = default_of f.ty

-- the cells of a new object of a class
abbrev pub fresh_of : Code → Fresh
fresh_of code class = map field_default (fields_of code class)

abbrev pub statements_of : Code → Statements
statements_of code number = numbered code.statements number

-- ---- frames

-- the slots of a frame, by number
abbrev pub Slots : Type 0
Slots = List Value

abbrev pub blank : List Ty → Slots
blank types = map default_of types

-- the first slots get values, as far as there are slots
abbrev pub with_first : List Value → Slots → Slots
with_first [] slots = slots
with_first (v ∷ vs) [] = []
with_first (v ∷ vs) (w ∷ slots) = v ∷ with_first vs slots

-- `this` and the arguments stand in the first slots, and every other slot has its default
abbrev pub first_slots : Method → List Value → Slots
first_slots m values = with_first values (blank m.slots)
