use Rattle.std.proofs.Common.{length, refl, arith}
use Rattle.std.proofs.lemmas.Option.{slice_get_read}
use Rattle.px_depend.proofs.Loops.{next_methods, done_methods}
use Rattle.px_depend.proofs.slots.slot_edges.Goals as goal

pub loop-method-preserved : goal.loop-method-preserved
loop-method-preserved c = next_methods c.args.methods.now c.loop-method.method-index c.method-item.result c.args.into.now.items c.loop-method.into.items c.method_edges.new.into.items (slice_get_read c.args.methods.now (length c.args.methods.now) c.loop-method.method-index c.method-item.result refl (omega arith) c.method-item.is) c.in_ok-method_edges.ensures c.loop-method.invariant

pub returns : goal.returns
returns c = done_methods c.args.methods.now c.loop-method.method-index c.args.into.now.items c.loop-method.into.items (omega arith) c.loop-method.invariant
