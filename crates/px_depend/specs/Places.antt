-- Lists of slots with statements that write or read them, and what they tell of a flow.
use Rattle.std.specs.Prelude.{◌≡◌, ℕ, nat_eq, not, Bool, true, ◌&&◌, List, [], ◌∷◌, map, unwrap_or, if◌then◌else◌}
use Rattle.std.specs.HashMap.{HashMap, get}
use Rattle.std.specs.HashSet.{HashSet, contains_by}
use Rattle.px_constraints.specs.System.{At}
use Rattle.px_flow_points.specs.Laws.{Both}
use Rattle.px_depend.specs.declared.places.Place.{Place}
use Rattle.px_depend.specs.declared.summary.Summary.{Summary}
use Rattle.px_depend.specs.Uses.{has}
use Rattle.px_depend.specs.Flow.{Flow}
use Rattle.px_depend.specs.Paths.{Passes, Arrives, Leaves}

abbrev pub place : ℕ → ℕ → Place
place node slot = record { slot = slot; node = node }

abbrev pub places_at : ℕ → List ℕ → List Place
places_at node slots = map (place node) slots

-- the nodes of a slot
abbrev pub nodes_at : ℕ → List Place → List ℕ
nodes_at slot [] = []
nodes_at slot (p ∷ ps) = if nat_eq slot p.slot then p.node ∷ nodes_at slot ps else nodes_at slot ps

-- the map has the nodes of each slot
abbrev pub AreGroups : {S : Type 0} → HashMap ℕ (List ℕ) S → List Place → Type 0
AreGroups {S} groups places = (slot : ℕ) → unwrap_or (get nat_eq groups slot) [] ≡ nodes_at slot places

-- the set has these slots
abbrev pub AreSlots : {S : Type 0} → HashSet ℕ S → List ℕ → Type 0
AreSlots set slots = (slot : ℕ) → contains_by (nat_eq slot) set ≡ has slot slots

-- a path to the end leaves the slot as it was
abbrev pub passes : Summary → ℕ → Bool
passes s slot = s.completes && not (has slot s.written.items)

-- those whose slots are left as they were
abbrev pub passing : Summary → List Place → List Place
passing s [] = []
passing s (p ∷ ps) = if passes s p.slot then p ∷ passing s ps else passing s ps

-- those whose slots aren't among these
abbrev pub others : List ℕ → List Place → List Place
others slots [] = []
others slots (p ∷ ps) = if has p.slot slots then others slots ps else p ∷ others slots ps

-- of each slot
abbrev pub Flows : Type 0
Flows = ℕ → Flow

-- what a summary tells of the flows of all slots
pub record IsSummary (s : Summary) (f : Flows) : Type 0 where
  pub leave : (k d : ℕ) → Both (At s.leave.items (place d k)) (Leaves d (f k))
  pub arrive : (k u : ℕ) → Both (At s.arrive.items (place u k)) (Arrives u (f k))
  pub pass : (k : ℕ) → Both (passes s k ≡ true) (Passes (f k))
