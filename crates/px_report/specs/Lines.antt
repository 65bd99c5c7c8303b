-- The text of a run, line by line.
use Rattle.std.specs.Prelude.{ℕ, ◌+◌, List, [], ◌∷◌, ◌++◌, map, codes, decimal}
use Rattle.std.specs.List.{flat_map, join_with_byte}
use Rattle.px_value.specs.declared.object.Object.{Object}
use Rattle.px_report.specs.declared.calls.ShownCall.{ShownCall}
use Rattle.px_report.specs.Words.{quoted, value_text, reply_text, kind_name}

-- words with one space between each two, and a line feed
abbrev pub line : List (List ℕ) → List ℕ
line words = join_with_byte 32 words ++ 10 ∷ []

-- the texts of things that are numbered from a number on
abbrev pub numbered : {A : Type 0} → (ℕ → A → List ℕ) → ℕ → List A → List ℕ
numbered text number [] = []
numbered text number (x ∷ xs) = text number x ++ numbered text (number + 1) xs

abbrev pub call_line : ShownCall → List ℕ
call_line call = line (codes "call" ∷ decimal call.session ∷ decimal call.number ∷ reply_text call.shown.reply ∷ [])

abbrev pub print_line : ℕ → List ℕ → List ℕ
print_line session printed = line (codes "print" ∷ decimal session ∷ quoted printed ∷ [])

-- a call, and the lines that it printed
abbrev pub call_text : ShownCall → List ℕ
call_text call = call_line call ++ flat_map (print_line call.session) call.shown.prints

-- an object is known by its place in its heap
abbrev pub object_line : List (List ℕ) → ℕ → Object → List ℕ
object_line classes place object = line (decimal place ∷ kind_name classes object.header.kind ∷ map value_text object.cells)

-- the objects have places from 0
abbrev pub heap_text : List (List ℕ) → ℕ → List Object → List ℕ
heap_text classes number heap = line (codes "heap" ∷ decimal number ∷ []) ++ numbered (object_line classes) 0 heap

-- what the calls leave, with which each text ends: the tables, and the heap of each session; the sessions have numbers from 1
abbrev pub state_text : List ℕ → List (List ℕ) → List (List Object) → List ℕ
state_text tables classes heaps =
    line (codes "tables" ∷ [])
    ++ tables
    ++ line (codes "heaps" ∷ [])
    ++ numbered (heap_text classes) 1 heaps
    ++ line (codes "done" ∷ [])
