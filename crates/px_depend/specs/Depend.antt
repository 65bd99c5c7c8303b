-- The edges between the nodes of code: what moves between two servers where an edge's ends are apart.
use Rattle.std.specs.Prelude.{◌≡◌, ◌≤◌, ℕ, true, suc, Some, slice_get}
use Rattle.px_constraints.specs.System.{At}
use Rattle.px_normal.specs.declared.ty.Ty.{Ty}
use Rattle.px_normal.specs.declared.method.Method.{Method}
use Rattle.px_normal.specs.declared.code.Code.{Code}
use Rattle.px_flow_points.specs.declared.part.Part.{Part}
use Rattle.px_flow_points.specs.Statements.{IsMethod}
use Rattle.px_flow_points.specs.ByNode.{ReadsAt, WritesAt}
use Rattle.px_depend.specs.declared.lines.Does.{Does}
use Rattle.px_depend.specs.declared.lines.Does.TheVariants as does
use Rattle.px_depend.specs.declared.edge.End.{End}
use Rattle.px_depend.specs.declared.edge.End.TheVariants as end
use Rattle.px_depend.specs.declared.edge.Tie.{Tie}
use Rattle.px_depend.specs.declared.edge.Tie.TheVariants as tie
use Rattle.px_depend.specs.declared.edge.Edge.{Edge}
use Rattle.px_depend.specs.Lines.{line, lines_of}
use Rattle.px_depend.specs.Paths.{Arrives, Meets}
use Rattle.px_depend.specs.Shapes.{shape_of}
use Rattle.px_depend.specs.declared.sizes.Home.{Home}
use Rattle.px_depend.specs.Sizes.{size_of, home_of}

abbrev pub edge : End → ℕ → Tie → ℕ → Edge
edge from to tie size = record { from = from; to = to; tie = tie; size = size }

-- of the slots, 0 is `this`, and the next ones are the parameters
pub data IsEdge (code : Code) : Edge → Type 0 where
  -- control
  held : {m by node : ℕ} {d : Does} → At (lines_of code) (line m by node d) → IsEdge code (edge (end.Node by) node tie.Held 0)
  asks : {m by node : ℕ} → At (lines_of code) (line m by node does.Asks) → IsEdge code (edge end.Db node tie.Held 0)
  calls : {m by node callee : ℕ} {method : Method} → At (lines_of code) (line m by node (does.Calls callee)) → IsMethod code callee method → IsEdge code (edge (end.Node node) method.node tie.Enters 0)
  enters : {m : ℕ} {method : Method} → IsMethod code m method → method.entry ≡ true → IsEdge code (edge end.App method.node tie.Enters 0)
  -- data in slots
  reaches : {m k d u : ℕ} {method : Method} {t : Ty} → IsMethod code m method → slice_get method.slots k ≡ Some t → Meets d u (shape_of k method.body) → IsEdge code (edge (end.Node d) u (tie.Slot k) (size_of t))
  parameter : {m k u : ℕ} {method : Method} {t : Ty} → IsMethod code m method → k ≤ method.params → slice_get method.slots k ≡ Some t → Arrives u (shape_of k method.body) → IsEdge code (edge (end.Node method.node) u (tie.Slot k) (size_of t))
  argument : {m by node callee k : ℕ} {method : Method} {t : Ty} → At (lines_of code) (line m by node (does.Calls callee)) → IsMethod code callee method → suc k ≤ method.params → slice_get method.slots (suc k) ≡ Some t → IsEdge code (edge (end.Node node) method.node (tie.Argument (suc k)) (size_of t))
  returned : {m by node callee holder back : ℕ} {method : Method} {t : Ty} → At (lines_of code) (line m by node (does.Calls callee)) → IsMethod code callee method → At (lines_of code) (line callee holder back does.Gives) → method.gives ≡ Some t → IsEdge code (edge (end.Node back) node tie.Result (size_of t))
  -- data in objects
  found : {d u s : ℕ} {part : Part} {home : Home} → WritesAt code d s part → ReadsAt code u s part → home_of code s part ≡ Some home → IsEdge code (edge (end.Node d) u (tie.Part part) home.size)
  updates : {d s : ℕ} {part : Part} {home : Home} → WritesAt code d s part → home_of code s part ≡ Some home → IsEdge code (edge (end.Node home.node) d tie.Home home.size)
