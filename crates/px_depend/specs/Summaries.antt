-- How summaries are put together, and the edges that this gives.
use Rattle.std.specs.Prelude.{◌≡◌, ◌≤◌, ◌⊎◌, ℕ, nat_lt, not, true, ◌&&◌, ◌||◌, List, [], ◌∷◌, ◌++◌, map, Option, Some, None, slice_get, if◌then◌else◌}
use Rattle.px_constraints.specs.System.{At}
use Rattle.px_normal.specs.declared.ty.Ty.{Ty}
use Rattle.px_normal.specs.declared.word.Operand.{Operand}
use Rattle.px_normal.specs.declared.word.Word.{Word}
use Rattle.px_normal.specs.declared.method.Tree.{Tree}
use Rattle.px_normal.specs.declared.method.Method.{Method}
use Rattle.px_normal.specs.Words.{to_of, is_return}
use Rattle.px_flow_points.specs.Laws.{Both}
use Rattle.px_depend.specs.declared.edge.Edge.{Edge}
use Rattle.px_depend.specs.declared.edge.End.TheVariants as end
use Rattle.px_depend.specs.declared.edge.Tie.TheVariants as tie
use Rattle.px_depend.specs.declared.places.Place.{Place}
use Rattle.px_depend.specs.declared.summary.Summary.{Summary}
use Rattle.px_depend.specs.Depend.{edge}
use Rattle.px_depend.specs.Sizes.{size_of}
use Rattle.px_depend.specs.Uses.{used, uses, common}
use Rattle.px_depend.specs.Flow.{Empty, Then, Either, Round}
use Rattle.px_depend.specs.Paths.{Arrives, Leaves, Meets}
use Rattle.px_depend.specs.Places.{places_at, nodes_at, passing, Flows, IsSummary}
use Rattle.px_depend.specs.Shapes.{shape, shape_of}

-- ---- lists

abbrev pub written_either : Summary → Summary → List ℕ
written_either a b = if a.completes then (if b.completes then common a.written.items b.written.items else a.written.items) else b.written.items

abbrev pub slot_edge : ℕ → ℕ → ℕ → Ty → Edge
slot_edge k d u t = edge (end.Node d) u (tie.Slot k) (size_of t)

abbrev pub slot_edges_to : ℕ → ℕ → Ty → ℕ → Edge
slot_edges_to k u t d = slot_edge k d u t

abbrev pub reached_by : Option Ty → Place → List ℕ → List Edge
reached_by None p nodes = []
reached_by (Some t) p nodes = map (slot_edges_to p.slot p.node t) nodes

abbrev pub reached : List Ty → Place → List ℕ → List Edge
reached types p nodes = reached_by (slice_get types p.slot) p nodes

-- from each that leaves to each that arrives at its slot
abbrev pub pairs : List Ty → List Place → List Place → List Edge
pairs types leave [] = []
pairs types leave (p ∷ ps) = reached types p (nodes_at p.slot leave) ++ pairs types leave ps

abbrev pub slots_in : Option ℕ → List ℕ
slots_in None = []
slots_in (Some k) = k ∷ []

-- ---- statements

pub record IsOfWord (node : ℕ) (word : Word) (s : Summary) : Type 0 where
  pub leave : s.leave.items ≡ places_at node (slots_in (to_of word))
  pub arrive : s.arrive.items ≡ places_at node (uses word)
  pub written : s.written.items ≡ slots_in (to_of word)
  pub completes : s.completes ≡ not (is_return word)

pub record IsOfTest (node : ℕ) (test : Operand) (s : Summary) : Type 0 where
  pub leave : s.leave.items ≡ []
  pub arrive : s.arrive.items ≡ places_at node (used test)
  pub written : s.written.items ≡ []
  pub completes : s.completes ≡ true

pub record Follows (a b s : Summary) : Type 0 where
  pub leave : s.leave.items ≡ passing b a.leave.items ++ b.leave.items
  pub arrive : s.arrive.items ≡ a.arrive.items ++ passing a b.arrive.items
  pub written : s.written.items ≡ a.written.items ++ b.written.items
  pub completes : s.completes ≡ (a.completes && b.completes)

pub record Chooses (a b s : Summary) : Type 0 where
  pub leave : s.leave.items ≡ a.leave.items ++ b.leave.items
  pub arrive : s.arrive.items ≡ a.arrive.items ++ b.arrive.items
  pub written : s.written.items ≡ written_either a b
  pub completes : s.completes ≡ (a.completes || b.completes)

pub record Repeats (a b s : Summary) : Type 0 where
  pub leave : s.leave.items ≡ passing a b.leave.items ++ a.leave.items
  pub arrive : s.arrive.items ≡ a.arrive.items ++ passing a b.arrive.items
  pub written : s.written.items ≡ a.written.items
  pub completes : s.completes ≡ a.completes

pub record IsEmpty (s : Summary) : Type 0 where
  pub leave : s.leave.items ≡ []
  pub arrive : s.arrive.items ≡ []
  pub written : s.written.items ≡ []
  pub completes : s.completes ≡ true

pub record IsCopy (one s : Summary) : Type 0 where
  pub leave : s.leave.items ≡ one.leave.items
  pub arrive : s.arrive.items ≡ one.arrive.items
  pub written : s.written.items ≡ one.written.items
  pub completes : s.completes ≡ one.completes

-- the first of a list, if there is one
abbrev pub IsFew : List Summary → Summary → Type 0
IsFew [] s = IsEmpty s
IsFew (one ∷ rest) s = IsCopy one s

-- ---- edges

-- the new list has what the old one has, and what is told
abbrev pub Adds : List Edge → List Edge → (Edge → Type 0) → Type 0
Adds old new P = (e : Edge) → Both (At new e) (At old e ⊎ P e)

pub data IsMet (types : List Ty) (f : Flows) : Edge → Type 0 where
  met : {k d u : ℕ} {t : Ty} → slice_get types k ≡ Some t → Meets d u (f k) → IsMet types f (slot_edge k d u t)

-- from one flow over into another
pub data IsOver (types : List Ty) (f g : Flows) : Edge → Type 0 where
  over : {k d u : ℕ} {t : Ty} → slice_get types k ≡ Some t → Leaves d (f k) → Arrives u (g k) → IsOver types f g (slot_edge k d u t)

-- ---- flows

abbrev pub in_turn : Flows → Flows → Flows
in_turn f g k = Then (f k) (g k)

abbrev pub one_of : Flows → Flows → Flows
one_of f g k = Either (f k) (g k)

abbrev pub rounds : Flows → Flows → Flows
rounds f g k = Round (f k) (g k)

-- the edges that a loop adds to those of its head and of its body
abbrev pub IsRound : List Ty → Flows → Flows → Edge → Type 0
IsRound types f g e = IsOver types f g e ⊎ IsOver types (in_turn f g) (rounds f g) e

abbrev pub line : List Flows → Flows
line [] k = Empty
line (f ∷ fs) k = Then (f k) (line fs k)

-- from one of the flows over into a later one
abbrev pub IsCross : List Ty → List Flows → Edge → Type 0
IsCross types [] e = ⊥
IsCross types (f ∷ fs) e = IsOver types f (line fs) e ⊎ IsCross types fs e

abbrev pub AreSummaries : List Summary → List Flows → Type 0
AreSummaries [] [] = Unit {0}
AreSummaries [] (f ∷ fs) = ⊥
AreSummaries (s ∷ ss) [] = ⊥
AreSummaries (s ∷ ss) (f ∷ fs) = IsSummary s f × AreSummaries ss fs

-- ---- trees

abbrev pub flows_of : Tree → Flows
flows_of t k = shape k t

abbrev pub flows_in : List Tree → List Flows
flows_in ts = map flows_of ts

-- within one of the trees
abbrev pub IsWithin : List Ty → List Tree → Edge → Type 0
IsWithin types [] e = ⊥
IsWithin types (t ∷ ts) e = IsMet types (flows_of t) e ⊎ IsWithin types ts e

-- ---- methods

abbrev pub shapes : List Tree → Flows
shapes ts k = shape_of k ts

-- the method itself writes its parameters
pub data IsGiven (m : Method) : Edge → Type 0 where
  given : {k u : ℕ} {t : Ty} → slice_get m.slots k ≡ Some t → k ≤ m.params → Arrives u (shape_of k m.body) → IsGiven m (slot_edge k m.node u t)

abbrev pub IsSlotEdge : Method → Edge → Type 0
IsSlotEdge m e = IsMet m.slots (shapes m.body) e ⊎ IsGiven m e

abbrev pub AreSlotEdges : List Method → Edge → Type 0
AreSlotEdges [] e = ⊥
AreSlotEdges (m ∷ ms) e = IsSlotEdge m e ⊎ AreSlotEdges ms e

-- for the code: those of a method's parameters
abbrev pub given_one : List Ty → ℕ → ℕ → Place → List Edge
given_one types params node p = if nat_lt params p.slot then [] else reached types p (node ∷ [])

abbrev pub given_all : List Ty → ℕ → ℕ → List Place → List Edge
given_all types params node [] = []
given_all types params node (p ∷ ps) = given_one types params node p ++ given_all types params node ps
