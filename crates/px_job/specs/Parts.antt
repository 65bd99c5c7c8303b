-- What lines make that begin with `part`, `app` or `db`.
use Rattle.std.specs.Prelude.{ℕ, zero, suc, ◌+◌, ◌==◌, nat_lt, nat_le, Bool, true, false, not, ◌&&◌, ◌||◌, List, [], ◌∷◌, ◌++◌, length, slice_set, unwrap_or, Option, Some, None, Result, Err, if◌then◌else◌, codes}
use Rattle.std.specs.List.{list_any}
use Rattle.std.specs.Option.{is_some, option_map}
use Rattle.std.specs.Str.{bytes_eq}
use Rattle.px_code.specs.declared.side.Side.{Side}
use Rattle.px_code.specs.declared.side.Side.TheVariants.{App, Db}
use Rattle.px_normal.specs.declared.code.Code.{Code}
use Rattle.px_normal.specs.declared.node.Node.{Node}
use Rattle.px_lex.specs.Names.{is_identifier}
use Rattle.px_job.specs.Arguments.{is_digits}
use Rattle.px_job.specs.Numbers.{number}
use Rattle.px_job.specs.Rules.{Rule, least_code, is_absent, unless}
use Rattle.px_job.specs.Prints.{prints_of, is_print}
use Rattle.px_job.specs.Selecting.{is_selector, selected}
use Rattle.px_job.specs.declared.job.Part.{Part}
use Rattle.px_job.specs.declared.job.JobCode.{JobCode}
use Rattle.px_job.specs.declared.job.JobCode.TheVariants.{J1, J3, J4, J13, J14, J15, J16, J17, J20}
use Rattle.px_job.specs.declared.parts.Bounds.{Bounds}
use Rattle.px_job.specs.declared.parts.Parts.{Parts}

-- ---- the form of a part's line

-- behind the number of a part: nothing, or `budget` and a number
abbrev pub budget_of : List (List ℕ) → Option (Option ℕ)
budget_of [] = Some None
budget_of (word ∷ amount ∷ []) = if bytes_eq word (codes "budget") && is_digits amount then Some (Some (number amount)) else None
budget_of _ = None

abbrev pub bounds_with : ℕ → Option (Option ℕ) → Option Bounds
bounds_with upto None = None
bounds_with upto (Some budget) = Some (record { upto = upto; budget = budget })

-- behind the name of a part: `upto`, a number, and perhaps a budget
abbrev pub bounds_of : List (List ℕ) → Option Bounds
bounds_of (word ∷ upto ∷ words) = if bytes_eq word (codes "upto") && is_digits upto then bounds_with (number upto) (budget_of words) else None
bounds_of _ = None

-- the words behind `part` are a name and bounds
abbrev pub is_part : List (List ℕ) → Bool
is_part (name ∷ words) = is_identifier name && is_some (bounds_of words)
is_part [] = false

abbrev pub with_budget : Option Bounds → Bool
with_budget None = false
with_budget (Some bounds) = is_some bounds.budget

-- the same with a budget
abbrev pub has_budget : List (List ℕ) → Bool
has_budget (name ∷ words) = with_budget (bounds_of words)
has_budget [] = false

-- ---- parts

-- the full load, per mille
abbrev pub full : ℕ
full = 1000

-- the greatest budget
abbrev pub max_budget : ℕ
max_budget = 1000000000000

-- the most parts of a job
abbrev pub max_parts : ℕ
max_parts = 8

abbrev pub last_of : Option Part → List Part
last_of None = []
last_of (Some part) = part ∷ []

-- the parts that have begun, in their order
abbrev pub begun : Parts → List Part
begun parts = parts.before ++ last_of parts.last

-- a print is pinned at APP; without a budget every node begins there
abbrev pub first_side : Bool → Bool → Option Side
first_side true has_budget = Some App
first_side false true = None
first_side false false = Some App

-- the sides of the nodes from a number on, before any line sets them
abbrev pub first_sides : Bool → List ℕ → ℕ → List Node → List (Option Side)
first_sides has_budget prints number [] = []
first_sides has_budget prints number (node ∷ nodes) = first_side (is_print prints number) has_budget ∷ first_sides has_budget prints (number + 1) nodes

abbrev pub new_part : Code → List ℕ → Bounds → Part
new_part code name bounds = record { name = name; upto = bounds.upto; budget = bounds.budget; sides = record { sides = first_sides (is_some bounds.budget) (prints_of code) 1 code.nodes } }

-- ---- the rules of a part

-- a part of this name has begun
abbrev pub repeats_name : List Part → List ℕ → Bool
repeats_name parts name = list_any (λ part. bytes_eq part.name name) parts

abbrev pub is_too_much : Option ℕ → Bool
is_too_much None = false
is_too_much (Some budget) = nat_lt max_budget budget

-- its number or its budget is outside its range
abbrev pub is_out_of_range : Bounds → Bool
is_out_of_range bounds = nat_lt full bounds.upto || is_too_much bounds.budget

-- the part before serves up to as much
abbrev pub is_not_above : Option Part → ℕ → Bool
is_not_above None upto = false
is_not_above (Some part) upto = nat_le upto part.upto

-- with so many begun and so many in the file, it is the last, and doesn't serve up to the full load
abbrev pub ends_low : (begun all upto : ℕ) → Bool
ends_low begun all upto = (begun + 1 == all) && not (upto == full)

-- so many have begun that there is no room for one more
abbrev pub is_part_too_many : ℕ → Bool
is_part_too_many begun = nat_le max_parts begun

abbrev pub part_rules : ℕ → Parts → List ℕ → Bounds → List Rule
part_rules all parts name bounds =
    (repeats_name (begun parts) name, J3)
    ∷ (is_out_of_range bounds, J4)
    ∷ (is_not_above parts.last bounds.upto, J16)
    ∷ (ends_low (length (begun parts)) all bounds.upto, J17)
    ∷ (is_part_too_many (length (begun parts)), J20)
    ∷ []

-- the parts with one more
abbrev pub with_part : Parts → Part → Parts
with_part parts part = record { before = begun parts; last = Some part }

abbrev pub part_by : Code → ℕ → Parts → List ℕ → Option Bounds → Result Parts JobCode
part_by code all parts name None = Err J1
part_by code all parts name (Some bounds) = unless (least_code (part_rules all parts name bounds)) (with_part parts (new_part code name bounds))

-- the words behind `part`, in a file of so many parts
abbrev pub judged_part : Code → ℕ → Parts → List (List ℕ) → Result Parts JobCode
judged_part code all parts (name ∷ words) = if is_identifier name then part_by code all parts name (bounds_of words) else Err J1
judged_part code all parts [] = Err J1

-- ---- sides

-- the sides, but a node's, by its number from 1
abbrev pub with_side : Side → ℕ → List (Option Side) → List (Option Side)
with_side side zero sides = sides
with_side side (suc place) sides = slice_set sides place (Some side)

abbrev pub with_sides : Side → List ℕ → List (Option Side) → List (Option Side)
with_sides side [] sides = sides
with_sides side (number ∷ numbers) sides = with_sides side numbers (with_side side number sides)

abbrev pub placed : Side → List ℕ → Part → Part
placed side numbers part = record part { sides = record { sides = with_sides side numbers part.sides.sides } }

abbrev pub is_db : Side → Bool
is_db Db = true
is_db App = false

-- a print among the nodes is placed at DB
abbrev pub places_print : List ℕ → Side → List ℕ → Bool
places_print prints side numbers = is_db side && list_any (is_print prints) numbers

-- about the last part that has begun, and the nodes that are selected
abbrev pub side_rules : List ℕ → Side → Option Part → Option (List ℕ) → List Rule
side_rules prints side last numbers = (is_absent last, J13) ∷ (is_absent numbers, J14) ∷ (places_print prints side (unwrap_or numbers []), J15) ∷ []

abbrev pub side_of : Code → Parts → Side → Option (List ℕ) → Result Parts JobCode
side_of code parts side numbers = unless (least_code (side_rules (prints_of code) side parts.last numbers)) (record parts { last = option_map (placed side (unwrap_or numbers [])) parts.last })

-- the words behind `app` or `db`: a selector
abbrev pub judged_side : Code → Parts → Side → List (List ℕ) → Result Parts JobCode
judged_side code parts side words = if is_selector words then side_of code parts side (selected code words) else Err J1

-- ---- all parts

abbrev pub no_parts : Parts
no_parts = record { before = []; last = None }

-- up to the full load, with no budget
abbrev pub whole_load : Bounds
whole_load = record { upto = full; budget = None }

-- a job without a part has the part `app`
abbrev pub parts_or_app : Code → List Part → List Part
parts_or_app code [] = new_part code (codes "app") whole_load ∷ []
parts_or_app code (part ∷ parts) = part ∷ parts
