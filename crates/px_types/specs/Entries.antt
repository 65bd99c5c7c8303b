-- The class Main and its entries, as jobs see them.
use Rattle.std.specs.Prelude.{ℕ, ◌+◌, List, [], ◌∷◌, ◌++◌, Option, Some, None, map, slice_get, unwrap_or, codes, if◌then◌else◌}
use Rattle.std.specs.Str.{bytes_eq}
use Rattle.px_value.specs.declared.ty.Ty.{Ty as ValueType}
use Rattle.px_value.specs.declared.ty.Ty.TheVariants as value
use Rattle.px_tree.specs.declared.Access.{Access}
use Rattle.px_tree.specs.declared.Access.TheVariants.{Public}
use Rattle.px_tree.specs.declared.Param.{Param}
use Rattle.px_tree.specs.declared.Method.{Method}
use Rattle.px_tree.specs.declared.Member.{Member}
use Rattle.px_tree.specs.declared.Member.TheVariants as member
use Rattle.px_tree.specs.declared.Class.{Class}
use Rattle.px_facts.specs.declared.types.Ty.{Ty}
use Rattle.px_facts.specs.declared.types.Ty.TheVariants as ty
use Rattle.px_types.specs.declared.table.Table.{Table}
use Rattle.px_facts.specs.declared.checked.Entry.{Entry}
use Rattle.px_facts.specs.declared.checked.Main.{Main}
use Rattle.px_types.specs.Members.{param_type, result_type}

-- the type that values have while a program runs
abbrev pub value_type : Ty → ValueType
value_type ty.Int = value.Int
value_type ty.Long = value.Long
value_type ty.Boolean = value.Bool
value_type ty.Text = value.Text
value_type _ = value.Ref

abbrev pub gives_type : Ty → Option ValueType
gives_type ty.Void = None
gives_type t = Some (value_type t)

abbrev pub param_value : Table ℕ → Param → ValueType
param_value numbers p = value_type (param_type numbers p)

abbrev pub entry_of : Table ℕ → ℕ → Method → Entry
entry_of numbers number m = record { name = m.name.bytes; method = number; params = map (param_value numbers) m.params; gives = gives_type (result_type numbers m.gives) }

abbrev pub entry_if : Access → Entry → List Entry
entry_if Public entry = entry ∷ []
entry_if _ entry = []

-- the public methods, where the first method has this number
abbrev pub entries_from : Table ℕ → ℕ → List Member → List Entry
entries_from numbers number [] = []
entries_from numbers number (member.Field f ∷ ms) = entries_from numbers number ms
entries_from numbers number (member.Method m ∷ ms) = entry_if m.access (entry_of numbers number m) ++ entries_from numbers (number + 1) ms

abbrev pub first_method : List ℕ → ℕ → ℕ
first_method firsts class = unwrap_or (slice_get firsts class) 1

-- the first class with the name Main, among those from this number on
abbrev pub main_from : Table ℕ → List ℕ → ℕ → List Class → Main
main_from numbers firsts class [] = record { class = 0; entries = [] }
main_from numbers firsts class (c ∷ cs) =
    if bytes_eq c.name.bytes (codes "Main") then record { class = class; entries = entries_from numbers (first_method firsts class) c.members }
    else main_from numbers firsts (class + 1) cs
