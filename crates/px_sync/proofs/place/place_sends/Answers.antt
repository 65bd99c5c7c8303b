use Rattle.std.proofs.Common.{List, None, replicate, ap, ◌∙◌}
use Rattle.px_sync.specs.declared.sent.Sent.{Sent}
use Rattle.px_sync.specs.Found.{with_all}
use Rattle.px_sync.proofs.Right.{has_sends}
use Rattle.px_sync.proofs.place.place_sends.Goals as goal

pub returns : goal.returns
returns c = has_sends c.args.code.now c.args.sides c.args.points.now c.as_slice.result.now c.as_slice-2.result.now c.in_ok-kept.kept c.in_ok-list.list.items c.len.result c.in_ok-sends.sends c.requires c.as_slice.ensures c.as_slice-2.ensures c.in_ok-kept.ensures c.in_ok-list.ensures c.len.ensures (c.in_ok-sends.ensures ∙ ap (λ (z : List Sent). with_all z (replicate c.len.result None)) c.as_slice-3.ensures.value)
