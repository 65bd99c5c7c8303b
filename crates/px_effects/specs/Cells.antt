-- Fields, elements of arrays, new objects, printed lines.
use Rattle.std.specs.Prelude.{ℕ, zero, suc, nat_lt, false, List, [], ◌∷◌, length, replicate, Option, Some, None, pos, negsuc, Result, Ok, Err, if◌then◌else◌}
use Rattle.std.specs.Int.{int_wrap, w32}
use Rattle.px_value.specs.declared.value.Value.{Value}
use Rattle.px_value.specs.declared.value.Value.TheVariants.{Int, Long, Bool as Truth, Null, Ref}
use Rattle.px_value.specs.declared.header.Header.{Header}
use Rattle.px_value.specs.declared.header.Kind.{Kind}
use Rattle.px_value.specs.declared.header.Kind.TheVariants as kind
use Rattle.px_value.specs.declared.thrown.Thrown.{Thrown}
use Rattle.px_value.specs.declared.thrown.Thrown.TheVariants.{NullPointerException, ArrayIndexOutOfBoundsException, NegativeArraySizeException}
use Rattle.px_value.specs.Operators.{text_of}
use Rattle.px_effects.specs.Act.{Act, Comes, Prints, Reads, Writes, Looks, Makes, Firsts}

abbrev pub comes : Value → Act
comes v = Comes (Ok v)

abbrev pub or_throws : {A : Type 0} → Result A Thrown → (A → Act) → Act
or_throws (Ok a) f = f a
or_throws (Err t) f = Comes (Err t)

-- the object of a reference (JLS 15.11.1, 15.26.1)
abbrev pub reference : Value → Result ℕ Thrown
reference (Ref object) = Ok object
reference _ = Err NullPointerException

abbrev pub at_object : Value → (ℕ → Act) → Act
at_object of f = or_throws (reference of) f

-- ---- fields

abbrev pub get_field : Value → ℕ → Act
get_field of place = at_object of (λ object. Reads object place comes)

abbrev pub put_field : Value → ℕ → Value → Act
put_field of place value = at_object of (λ object. Writes object place value (comes Null))

-- ---- elements of arrays

abbrev pub length_in : Option Header → ℕ
length_in None = 0
length_in (Some h) = h.length

-- a number of cells as an int
abbrev pub size_value : ℕ → Value
size_value n = Int (int_wrap w32 (pos n))

abbrev pub array_length : Value → Act
array_length of = at_object of (λ object. Looks object (λ h. comes (size_value (length_in h))))

-- the place of an index among so many elements
abbrev pub place_of : Value → ℕ → Result ℕ Thrown
place_of (Int (pos i)) n = if nat_lt i n then Ok i else Err ArrayIndexOutOfBoundsException
place_of _ n = Err ArrayIndexOutOfBoundsException

-- the place in an array (JLS 15.10.4, 15.26.1)
abbrev pub at_element : Value → Value → (ℕ → ℕ → Act) → Act
at_element of index f = at_object of (λ object. Looks object (λ h. or_throws (place_of index (length_in h)) (f object)))

abbrev pub load : Value → Value → Act
load of index = at_element of index (λ object place. Reads object place comes)

abbrev pub store : Value → Value → Value → Act
store of index value = at_element of index (λ object place. Writes object place value (comes Null))

-- ---- new objects

-- The first cells of objects of each class are a program's own; those of arrays and of rows are the same in all programs.
abbrev pub Fresh : Type 0
Fresh = ℕ → List Value

-- the default of a type of elements: int, long, boolean, String, and then the classes (JLS 4.12.5)
abbrev pub element_default : ℕ → Value
element_default zero = Int (pos 0)
element_default (suc zero) = Long (pos 0)
element_default (suc (suc zero)) = Truth false
element_default _ = Null

-- the first cell of a result set is its cursor
abbrev pub blank_rows : ℕ → List Value
blank_rows zero = []
blank_rows (suc n) = Int (pos 0) ∷ replicate n Null

abbrev pub first_of : Fresh → Kind → ℕ → List Value
first_of fresh (kind.Object class) n = fresh class
first_of fresh (kind.Array element) n = replicate n (element_default element)
first_of fresh (kind.Rows number) n = blank_rows n

abbrev pub first_cells : Fresh → Firsts
first_cells fresh h = first_of fresh h.kind h.length

abbrev pub object_header : Fresh → (class site : ℕ) → Header
object_header fresh class site = record { kind = kind.Object class; site = site; length = length (fresh class) }

abbrev pub array_header : (element site length : ℕ) → Header
array_header element site n = record { kind = kind.Array element; site = site; length = n }

-- a result set of so many values
abbrev pub rows_header : (number site cells : ℕ) → Header
rows_header number site cells = record { kind = kind.Rows number; site = site; length = suc cells }

-- JLS 15.9.4
abbrev pub make_object : Fresh → (class site : ℕ) → Act
make_object fresh class site = Makes (object_header fresh class site) (λ object. comes (Ref object))

-- how many elements an array is to have
abbrev pub array_size : Value → Result ℕ Thrown
array_size (Int (pos n)) = Ok n
array_size (Int (negsuc n)) = Err NegativeArraySizeException
-- a size that no typed program has
array_size _ = Ok 0

-- JLS 15.10.2
abbrev pub make_array : (element site : ℕ) → Value → Act
make_array element site size = or_throws (array_size size) (λ n. Makes (array_header element site n) (λ object. comes (Ref object)))

-- ---- printed lines

abbrev pub print_line : Value → Act
print_line v = Prints (text_of v)
