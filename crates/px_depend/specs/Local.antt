-- The edges of control and of calls, as lists.
use Rattle.std.specs.Prelude.{ℕ, zero, suc, List, [], ◌∷◌, ◌++◌, map, Option, Some, None, slice_get, if◌then◌else◌}
use Rattle.px_normal.specs.declared.ty.Ty.{Ty}
use Rattle.px_normal.specs.declared.method.Method.{Method}
use Rattle.px_normal.specs.declared.code.Code.{Code}
use Rattle.px_normal.specs.First.{numbered}
use Rattle.px_depend.specs.declared.edge.Edge.{Edge}
use Rattle.px_depend.specs.declared.edge.End.TheVariants as end
use Rattle.px_depend.specs.declared.edge.Tie.TheVariants as tie
use Rattle.px_depend.specs.declared.lines.Does.{Does}
use Rattle.px_depend.specs.declared.lines.Does.TheVariants as does
use Rattle.px_depend.specs.declared.lines.Line.{Line}
use Rattle.px_depend.specs.declared.places.Place.{Place}
use Rattle.px_depend.specs.Depend.{edge}
use Rattle.px_depend.specs.Sizes.{size_of}
use Rattle.px_depend.specs.Places.{place, nodes_at}

-- ---- what methods return, by their numbers

abbrev pub given_by : Does → Line → List Place
given_by does.Gives l = place l.node l.method ∷ []
given_by _ l = []

abbrev pub given_places : List Line → List Place
given_places [] = []
given_places (l ∷ ls) = given_by l.does l ++ given_places ls

-- ---- calls

abbrev pub argument_at : ℕ → ℕ → ℕ → Option Ty → List Edge
argument_at node to slot None = []
argument_at node to slot (Some t) = edge (end.Node node) to (tie.Argument slot) (size_of t) ∷ []

-- the arguments in slots from 1 on
abbrev pub arguments : ℕ → ℕ → List Ty → ℕ → List Edge
arguments node to types zero = []
arguments node to types (suc n) = arguments node to types n ++ argument_at node to (suc n) (slice_get types (suc n))

abbrev pub result_edge : ℕ → Ty → ℕ → Edge
result_edge node t back = edge (end.Node back) node tie.Result (size_of t)

abbrev pub results : ℕ → Option Ty → List ℕ → List Edge
results node None backs = []
results node (Some t) backs = map (result_edge node t) backs

abbrev pub call_edges : ℕ → Method → List ℕ → List Edge
call_edges node m backs = (edge (end.Node node) m.node tie.Enters 0 ∷ [] ++ arguments node m.node m.slots m.params) ++ results node m.gives backs

abbrev pub called : ℕ → Option Method → List ℕ → List Edge
called node None backs = []
called node (Some m) backs = call_edges node m backs

-- ---- lines

abbrev pub does_edges : Code → List Place → ℕ → Does → List Edge
does_edges code given node does.Asks = edge end.Db node tie.Held 0 ∷ []
does_edges code given node (does.Calls callee) = called node (numbered code.methods callee) (nodes_at callee given)
does_edges code given node _ = []

abbrev pub line_edges : Code → List Place → Line → List Edge
line_edges code given l = edge (end.Node l.by) l.node tie.Held 0 ∷ [] ++ does_edges code given l.node l.does

abbrev pub lines_edges : Code → List Place → List Line → List Edge
lines_edges code given [] = []
lines_edges code given (l ∷ ls) = line_edges code given l ++ lines_edges code given ls

abbrev pub entry_one : Method → List Edge
entry_one m = if m.entry then edge end.App m.node tie.Enters 0 ∷ [] else []

abbrev pub entry_edges : List Method → List Edge
entry_edges [] = []
entry_edges (m ∷ ms) = entry_one m ++ entry_edges ms

abbrev pub local_edges : Code → List Line → List Edge
local_edges code lines = entry_edges code.methods ++ lines_edges code (given_places lines) lines
