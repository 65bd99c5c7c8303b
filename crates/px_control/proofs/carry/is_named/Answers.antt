use Rattle.std.proofs.Common.{Bool, ◌||◌, sym, ap, ◌∙◌}
use Rattle.px_blocks.specs.declared.block.SendKind.{SendKind}
use Rattle.px_effects.specs.Act.{header_at}
use Rattle.px_blocks.specs.Plan.{home_at}
use Rattle.px_blocks.specs.Machine.{has_naming}
use Rattle.px_control.specs.Names.{kind_at}
use Rattle.px_control.proofs.Carrying.{named_by}
use Rattle.px_control.proofs.carry.is_named.Goals as goal

pub returns : goal.returns
returns g c = λ plan e.
    let kind = c.kind_at-kind.ensures ∙ ap kind_at (c.home_of.ensures plan e) in
    ap (λ (b : Bool). b || c.has-2.result) (c.has.ensures ∙ ap (λ (k : SendKind). has_naming c.args.names.now k c.args.mark.object) kind)
    ∙ ap (λ (b : Bool). has_naming c.args.names.now (kind_at (home_at plan (header_at c.args.heap.now c.args.mark.object) c.args.mark.index)) c.args.mark.object || b) c.has-2.ensures
    ∙ sym (named_by plan (header_at c.args.heap.now c.args.mark.object) c.args.names.now c.args.mark.object c.args.mark.index)
