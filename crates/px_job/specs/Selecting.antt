-- Which nodes a side line selects.
use Rattle.std.specs.Prelude.{ℕ, Bool, false, ◌&&◌, ◌||◌, List, [], ◌∷◌, map, Option, Some, None, if◌then◌else◌, codes}
use Rattle.std.specs.Option.{option_map, option_and_then}
use Rattle.std.specs.Str.{bytes_eq}
use denote.Ref.{Bor}
use Rattle.px_outside.specs.Numbers.{u64_of}
use Rattle.px_normal.specs.declared.code.Code.{Code}
use Rattle.px_job.specs.Names.{is_dotted}
use Rattle.px_job.specs.Arguments.{is_digits}
use Rattle.px_job.specs.Prints.{prints_of}
use Rattle.px_job.specs.Groups.{numbers_at, key_of, keys_but_prints}
use Rattle.px_job.specs.declared.groups.Key.TheVariants as keys
use Rattle.px_job.specs.Titles.{method_titles, field_titles, nodes_named}

-- ---- the form of a selector

abbrev pub is_all : List ℕ → Bool
is_all word = bytes_eq word (codes "all")

abbrev pub is_line : List ℕ → Bool
is_line word = bytes_eq word (codes "line")

abbrev pub is_method : List ℕ → Bool
is_method word = bytes_eq word (codes "method")

abbrev pub is_field : List ℕ → Bool
is_field word = bytes_eq word (codes "field")

-- `all`, `line N`, `method C.m` or `field C.f`
abbrev pub is_selector : List (List ℕ) → Bool
is_selector (kind ∷ []) = is_all kind
is_selector (kind ∷ name ∷ []) = if is_line kind then is_digits name else (is_method kind || is_field kind) && is_dotted name
is_selector _ = false

-- ---- what it selects, as the numbers of nodes

-- the lines of the nodes
abbrev pub lines_in : Code → List (Option ℕ)
lines_in code = map (key_of keys.Line) code.nodes

-- the methods in which the nodes stand that aren't prints
abbrev pub owners_in : Code → List (Option ℕ)
owners_in code = keys_but_prints keys.Method (prints_of code) 1 code.nodes

-- one key for every node but prints
abbrev pub all_in : Code → List (Option ℕ)
all_in code = keys_but_prints keys.All (prints_of code) 1 code.nodes

abbrev pub all_nodes : Code → List ℕ
all_nodes code = numbers_at 0 1 (all_in code)

abbrev pub some_numbers : List ℕ → Option (List ℕ)
some_numbers [] = None
some_numbers (number ∷ numbers) = Some (number ∷ numbers)

-- the statements of a line, prints too, and its sites
abbrev pub line_nodes : Code → List ℕ → Option (List ℕ)
line_nodes code name = option_and_then (λ line. some_numbers (numbers_at line 1 (lines_in code))) (u64_of name)

-- a method's own node, its statements but prints, and its sites
abbrev pub method_nodes : Code → List ℕ → Option (List ℕ)
method_nodes code name = nodes_named name (method_titles code.classes (owners_in code) 1 code.methods)

abbrev pub field_nodes : Code → List ℕ → Option (List ℕ)
field_nodes code name = nodes_named name (field_titles code.classes)

-- what a selector selects; none where it names what isn't there
abbrev pub selected : Code → List (List ℕ) → Option (List ℕ)
selected code (kind ∷ name ∷ rest) = if is_line kind then line_nodes code name else if is_method kind then method_nodes code name else field_nodes code name
selected code (kind ∷ []) = Some (all_nodes code)
selected code [] = None

-- what is borrowed, if anything
abbrev pub now_of : Option (Bor (List ℕ)) → Option (List ℕ)
now_of numbers = option_map (λ ns. ns.now) numbers
