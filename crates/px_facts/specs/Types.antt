-- Static types (JLS 4), and the values that fit them.
use Rattle.std.specs.Prelude.{Bool, true, false, nat_eq}
use Rattle.px_facts.specs.declared.types.Element.{Element}
use Rattle.px_facts.specs.declared.types.Element.TheVariants as element
use Rattle.px_facts.specs.declared.types.Ty.{Ty}
use Rattle.px_facts.specs.declared.types.Ty.TheVariants.{Unknown, Void, Null, Int, Long, Boolean, Text, Object, Array, ResultSet}

abbrev pub is_unknown : Ty → Bool
is_unknown Unknown = true
is_unknown _ = false

abbrev pub is_void : Ty → Bool
is_void Void = true
is_void _ = false

abbrev pub is_null : Ty → Bool
is_null Null = true
is_null _ = false

abbrev pub is_number : Ty → Bool
is_number Int = true
is_number Long = true
is_number _ = false

abbrev pub is_boolean : Ty → Bool
is_boolean Boolean = true
is_boolean _ = false

abbrev pub is_text : Ty → Bool
is_text Text = true
is_text _ = false

abbrev pub is_rows : Ty → Bool
is_rows ResultSet = true
is_rows _ = false

abbrev pub is_array : Ty → Bool
is_array (Array e) = true
is_array _ = false

-- a reference type (JLS 4.3)
abbrev pub is_reference : Ty → Bool
is_reference Text = true
is_reference (Object class) = true
is_reference (Array e) = true
is_reference ResultSet = true
is_reference _ = false

abbrev pub same_element : Element → Element → Bool
same_element element.Int element.Int = true
same_element element.Long element.Long = true
same_element element.Boolean element.Boolean = true
same_element element.Text element.Text = true
same_element (element.Object a) (element.Object b) = nat_eq a b
same_element _ _ = false

abbrev pub same : Ty → Ty → Bool
same Unknown Unknown = true
same Void Void = true
same Null Null = true
same Int Int = true
same Long Long = true
same Boolean Boolean = true
same Text Text = true
same (Object a) (Object b) = nat_eq a b
same (Array a) (Array b) = same_element a b
same ResultSet ResultSet = true
same _ _ = false

-- A value fits a type that it has, an int fits a long, and null fits a reference type (JLS 5.2). A void call is no value.
abbrev pub fits : Ty → Ty → Bool
fits to Void = false
fits to Unknown = true
fits Unknown from = true
fits Long Int = true
fits to Null = is_reference to
fits to from = same to from

-- the type of an array's elements
abbrev pub element_type : Element → Ty
element_type element.Int = Int
element_type element.Long = Long
element_type element.Boolean = Boolean
element_type element.Text = Text
element_type (element.Object class) = Object class

-- an array of them; of an unknown class it is unknown
abbrev pub array_of : Ty → Ty
array_of Int = Array element.Int
array_of Long = Array element.Long
array_of Boolean = Array element.Boolean
array_of Text = Array element.Text
array_of (Object class) = Array (element.Object class)
array_of _ = Unknown

-- the type of an index expression over an array
abbrev pub indexed : Ty → Ty
indexed (Array e) = element_type e
indexed _ = Unknown

-- what a print takes
abbrev pub is_printable : Ty → Bool
is_printable Unknown = true
is_printable Int = true
is_printable Long = true
is_printable Boolean = true
is_printable Text = true
is_printable _ = false
