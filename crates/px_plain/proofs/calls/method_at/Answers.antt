use Rattle.std.proofs.Common.{arith, ap, ◌∙◌, ◌-◌, slice_get}
use Rattle.px_plain.proofs.Frames.{method_there}
use Rattle.px_plain.proofs.calls.method_at.Goals as goal

pub returns-in-Some : goal.returns-in-Some
returns-in-Some c = method_there c.args.methods.now c.args.number _ (omega arith) (c.in-Some.ensures ∙ ap (λ n. slice_get c.args.methods.now (n - 1)) c.from.ensures)

pub returns-in-None : goal.returns-in-None
returns-in-None c = method_there c.args.methods.now c.args.number _ (omega arith) (c.in-None.ensures ∙ ap (λ n. slice_get c.args.methods.now (n - 1)) c.from.ensures)
