use Rattle.std.proofs.Common.{append_assoc}
use Rattle.px_report.proofs.state.push_heaps_to_end.Goals as goal

pub returns : goal.returns
returns c = rw (c.in_ok-extend_from_slice-2.ensures.items, c.in_ok-push_heaps.ensures, c.in_ok-extend_from_slice.ensures.items) (simp append_assoc)
