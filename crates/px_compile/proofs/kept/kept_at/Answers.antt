use Rattle.px_compile.proofs.Keeping.{kept_exactly_by}
use Rattle.px_compile.proofs.kept.kept_at.Goals as goal

pub returns : goal.returns
returns c = kept_exactly_by c.args.code.now c.args.sides.now c.args.side c.args.points.now _ _ _ _ c.requires c.in_ok-mark_methods.ensures c.as_slice.ensures c.in_ok-marks.ensures c.fields_of.ensures
