use Rattle.std.proofs.Common.{◌++◌, ◌∷◌, [], get_or, ap, ◌∙◌, arith, if◌then◌else◌}
use Rattle.px_flow_points.specs.declared.part.Part.TheVariants.{Field}
use Rattle.px_flow_points.specs.declared.pairs.Touch.{Touch}
use Rattle.px_depend.specs.Objects.{Key, is_key, written_by}
use Rattle.px_depend.proofs.Holding.{one_more}
use Rattle.px_depend.proofs.objects.grouped.Goals as goal

abbrev nothing : Touch
nothing = record { node = 0; pair = record { site = 0; part = Field 0 } }

pub loop-touch-preserved : goal.loop-touch-preserved
loop-touch-preserved c = λ key. one_more key c.args.writes.now c.loop-touch.touch-index nothing (λ k. written_by c.loop-touch.nodes k) (λ k. written_by c.add_writer.new.nodes k) (omega arith)
    (c.in_ok-add_writer.ensures key ∙ ap (λ (k : Key). if is_key k key then written_by c.loop-touch.nodes k ++ (get_or c.args.writes.now c.loop-touch.touch-index nothing).node ∷ [] else written_by c.loop-touch.nodes key) c.key_of.ensures)
    (c.loop-touch.invariant key)
