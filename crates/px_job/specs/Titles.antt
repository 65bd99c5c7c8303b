-- The nodes of methods and fields, by dotted names.
use Rattle.std.specs.Prelude.{◌≡◌, ℕ, ◌+◌, List, [], ◌∷◌, ◌++◌, slice_get, Option, Some, None, if◌then◌else◌}
use Rattle.std.specs.Option.{option_map, option_and_then}
use Rattle.std.specs.Str.{bytes_eq}
use Rattle.std.specs.HashMap.{HashMap}
use denote.Ref.{Bor}
use Rattle.px_normal.specs.declared.class.Class.{Class}
use Rattle.px_normal.specs.declared.class.Field.{Field}
use Rattle.px_normal.specs.declared.method.Method.{Method}
use Rattle.px_job.specs.Places.{place_in}
use Rattle.px_job.specs.Groups.{numbers_at}
use Rattle.px_job.specs.declared.titles.Titled.{Titled}

abbrev pub titled : List ℕ → List ℕ → Titled
titled name nodes = record { name = name; nodes = nodes }

-- the name of a class, a dot, and the name of a method or a field of it
abbrev pub dotted : List ℕ → List ℕ → List ℕ
dotted owner name = owner ++ 46 ∷ name

abbrev pub name_of : Option Class → List ℕ
name_of None = []
name_of (Some class) = class.name

-- the methods from a number on, each with the nodes that stand in it, by the method of each node
abbrev pub method_titles : List Class → List (Option ℕ) → ℕ → List Method → List Titled
method_titles classes owners number [] = []
method_titles classes owners number (method ∷ methods) = titled (dotted (name_of (slice_get classes method.class)) method.name) (numbers_at number 1 owners) ∷ method_titles classes owners (number + 1) methods

-- the fields, each with its node
abbrev pub titles_in : List ℕ → List Field → List Titled
titles_in owner [] = []
titles_in owner (field ∷ fields) = titled (dotted owner field.name) (field.node ∷ []) ∷ titles_in owner fields

abbrev pub field_titles : List Class → List Titled
field_titles [] = []
field_titles (class ∷ classes) = titles_in class.name class.fields ++ field_titles classes

-- the first title of a name among those from a place on
abbrev pub title_from : List ℕ → ℕ → List Titled → Option ℕ
title_from name place [] = None
title_from name place (title ∷ titles) = if bytes_eq title.name name then Some place else title_from name (place + 1) titles

-- the nodes of the first title of a name
abbrev pub nodes_named : List ℕ → List Titled → Option (List ℕ)
nodes_named name titles = option_map (λ title. title.nodes) (option_and_then (slice_get titles) (title_from name 0 titles))

-- the map has the place of each name
abbrev pub AreTitles : {S : Type 0} → HashMap (Bor (List ℕ)) ℕ S → List Titled → Type 0
AreTitles {S} places titles = (name : List ℕ) → place_in places name ≡ title_from name 0 titles
