use Rattle.std.proofs.Common.{◌++◌, [], List, ap, ◌∙◌, subst}
use Rattle.px_normal.specs.declared.method.Method.{Method}
use Rattle.px_flow_points.specs.declared.pairs.Touch.{Touch}
use Rattle.px_flow_points.specs.Order.{put_all}
use Rattle.px_depend.specs.declared.edge.Edge.{Edge}
use Rattle.px_depend.specs.declared.lines.Line.{Line}
use Rattle.px_depend.specs.Lines.{methods_lines}
use Rattle.px_depend.specs.Local.{local_edges}
use Rattle.px_depend.specs.Objects.{object_edges}
use Rattle.px_depend.specs.Order.{edge_cmp}
use Rattle.px_depend.specs.Summaries.{Adds, AreSlotEdges}
use Rattle.px_depend.proofs.Whole.{are_edges}
use Rattle.px_depend.proofs.dependences.depend.Goals as goal

pub returns : goal.returns
returns c = are_edges c.args.code.now c.args.points.now c.requires.touched c.local_edges.new.into.items c.slot_edges.new.into.items c.object_edges.new.into.items c.in_ok-edges.edges
    (c.in_ok-local_edges.ensures
    ∙ ap (λ (z : List Edge). z ++ local_edges c.args.code.now c.as_slice-2.result.now) c.new-list.ensures.items
    ∙ ap (λ (z : List Line). [] ++ local_edges c.args.code.now z) (c.as_slice-2.ensures.value ∙ c.in_ok-lines.ensures ∙ ap (λ (z : List Method). methods_lines 1 z) c.as_slice.ensures))
    (subst (λ (z : List Method). Adds c.local_edges.new.into.items c.slot_edges.new.into.items (AreSlotEdges z)) c.as_slice-3.ensures c.in_ok-slot_edges.ensures)
    (c.in_ok-object_edges.ensures
    ∙ ap (λ (z : List Touch). c.slot_edges.new.into.items ++ object_edges c.args.code.now z c.all_reads.result.now) c.all_writes.ensures
    ∙ ap (λ (z : List Touch). c.slot_edges.new.into.items ++ object_edges c.args.code.now c.args.points.now.writes z) c.all_reads.ensures)
    (c.in_ok-edges.ensures.same ∙ ap (λ (z : List Edge). put_all edge_cmp [] z) c.as_slice-4.ensures.value)
    c.in_ok-edges.ensures.rise
