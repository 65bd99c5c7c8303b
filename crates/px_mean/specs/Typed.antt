-- When a heap is typed.
use Rattle.std.specs.Prelude.{◌≡◌, ℕ, zero, suc, nat_eq, ℤ, Bool, true, false, ◌&&◌, List, [], ◌∷◌, length, Option, Some, None, slice_get}
use Rattle.std.specs.List.{list_all}
use Rattle.std.specs.FinMap.{values}
use Rattle.px_value.specs.declared.value.Value.{Value}
use Rattle.px_value.specs.declared.value.Value.TheVariants.{Int, Long, Bool as Truth, Text, Null, Ref}
use Rattle.px_value.specs.declared.object.Object.{Object}
use Rattle.px_value.specs.declared.header.Kind.{Kind}
use Rattle.px_value.specs.declared.header.Kind.TheVariants as kind
use Rattle.px_facts.specs.declared.types.Ty.{Ty}
use Rattle.px_facts.specs.declared.types.Ty.TheVariants as ty
use Rattle.px_facts.specs.declared.types.Element.{Element}
use Rattle.px_facts.specs.declared.types.Element.TheVariants as element
use Rattle.px_facts.specs.declared.checked.Facts.{Facts}
use Rattle.px_facts.specs.Types.{element_type}
use Rattle.px_mean.specs.Facts.{fields_of, element_number}
use Rattle.px_rows.specs.Tables.{Row, Tables}

-- ---- values

abbrev pub kind_in : Option Object → Option Kind
kind_in None = None
kind_in (Some o) = Some o.header.kind

-- the kind of the object at a place
abbrev pub kind_at : List Object → ℕ → Option Kind
kind_at heap place = kind_in (slice_get heap place)

-- A reference may be null. A type that no variable has, has null alone, which stands for no value: a call of a void method leaves it.
abbrev pub MayBeNull : Ty → Type 0
MayBeNull ty.Int = ⊥
MayBeNull ty.Long = ⊥
MayBeNull ty.Boolean = ⊥
MayBeNull _ = Unit {0}

-- a value of a type, beside a heap
pub data HasType (heap : List Object) : Ty → Value → Type 0 where
  int : (n : ℤ) → HasType heap ty.Int (Int n)
  long : (n : ℤ) → HasType heap ty.Long (Long n)
  truth : (b : Bool) → HasType heap ty.Boolean (Truth b)
  text : (bytes : List ℕ) → HasType heap ty.Text (Text bytes)
  object : (class place : ℕ) → kind_at heap place ≡ Some (kind.Object class) → HasType heap (ty.Object class) (Ref place)
  array : (of : Element) (place : ℕ) → kind_at heap place ≡ Some (kind.Array (element_number of)) → HasType heap (ty.Array of) (Ref place)
  rows : (number place : ℕ) → kind_at heap place ≡ Some (kind.Rows number) → HasType heap ty.ResultSet (Ref place)
  null : (t : Ty) → MayBeNull t → HasType heap t Null

-- one of each type, in order
abbrev pub HaveTypes : List Object → List Ty → List Value → Type 0
HaveTypes heap [] [] = Unit {0}
HaveTypes heap (t ∷ ts) (v ∷ vs) = HasType heap t v × HaveTypes heap ts vs
HaveTypes heap _ _ = ⊥

-- all of one type
abbrev pub AllHaveType : List Object → Ty → List Value → Type 0
AllHaveType heap t [] = Unit {0}
AllHaveType heap t (v ∷ vs) = HasType heap t v × AllHaveType heap t vs

-- ---- values of tables

-- a value that is sent to the tables, and that they keep
pub data IsKept : Value → Type 0 where
  long : (n : ℤ) → IsKept (Long n)
  text : (bytes : List ℕ) → IsKept (Text bytes)

abbrev pub AllKept : List Value → Type 0
AllKept [] = Unit {0}
AllKept (v ∷ vs) = IsKept v × AllKept vs

abbrev pub is_kept : Value → Bool
is_kept (Long n) = true
is_kept (Text bytes) = true
is_kept _ = false

-- a row of so many columns, each a long or a text
abbrev pub is_row : ℕ → Row → Bool
is_row width row = nat_eq (length row) width && list_all is_kept row

-- one table for each of these widths, whose rows are so wide, and whose cells are longs and texts
abbrev pub are_kept : List ℕ → Tables → Bool
are_kept [] [] = true
are_kept (width ∷ widths) (t ∷ T) = list_all (is_row width) (values t) && are_kept widths T
are_kept _ _ = false

-- ---- heaps

-- the type of elements of a number
abbrev pub numbered_element : ℕ → Element
numbered_element zero = element.Int
numbered_element (suc zero) = element.Long
numbered_element (suc (suc zero)) = element.Boolean
numbered_element (suc (suc (suc zero))) = element.Text
numbered_element (suc (suc (suc (suc class)))) = element.Object class

-- a cursor, and then longs and texts
abbrev pub AreRows : List Object → List Value → Type 0
AreRows heap [] = ⊥
AreRows heap (cursor ∷ cells) = HasType heap ty.Int cursor × AllKept cells

-- cells of the types that an object of a kind has
abbrev pub HasCells : Facts → List Object → Kind → List Value → Type 0
HasCells F heap (kind.Object class) cells = HaveTypes heap (fields_of F class) cells
HasCells F heap (kind.Array number) cells = AllHaveType heap (element_type (numbered_element number)) cells
HasCells F heap (kind.Rows number) cells = AreRows heap cells

abbrev pub IsTypedHeap : Facts → List Object → Type 0
IsTypedHeap F heap = (place : ℕ) (o : Object) → slice_get heap place ≡ Some o → HasCells F heap o.header.kind o.cells
