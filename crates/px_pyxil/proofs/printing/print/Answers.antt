use Rattle.px_pyxil.proofs.Trees.{whole_ends}
use Rattle.px_pyxil.proofs.printing.print.Goals as goal

pub returns : goal.returns
returns c = whole_ends c.args.pyxil.now _ _ _ c.as_slice.ensures c.as_slice-2.ensures c.as_slice-3.ensures c.new-text.ensures.items c.in_ok-push_fields.ensures c.in_ok-push_sites.ensures c.in_ok-push_methods.ensures
