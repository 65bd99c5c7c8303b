use Rattle.std.proofs.Common.{length, arith, sym, ap, ◌∙◌}
use Rattle.std.proofs.lemmas.Option.{get_or_from_slice_get, slice_get_within}
use Rattle.px_code.specs.declared.frame.Frame.{Frame}
use Rattle.px_half.proofs.Stacks.{filled-past}
use Rattle.px_half.proofs.stack.fill.Goals.{else-frame-len-via-then-frame-len+else-slot-len, else-frame-len-via-else-frame-len}
use Rattle.px_half.proofs.stack.fill.Goals as goal

pub returns-else-frame-len : goal.returns-else-frame-len
returns-else-frame-len c = sym (filled-past c.args.frames.now.items c.args.frame c.args.slot c.args.value (elim c.else-frame-len.branch [
  | else-frame-len-via-then-frame-len+else-slot-len w ↦
      λ x h. let e = ap (λ (f : Frame). length f.slots) (w.index.ensures ∙ get_or_from_slice_get c.args.frames.now.items c.args.frame x w.index.result.now h) in omega (arith, e)
  | else-frame-len-via-else-frame-len w ↦ λ x h. let k = slice_get_within c.args.frames.now.items c.args.frame x h in absurd (omega (arith, k))
]))
