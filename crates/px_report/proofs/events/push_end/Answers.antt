use Rattle.std.proofs.Common.{append_assoc}
use Rattle.px_report.proofs.events.push_end.Goals as goal

pub returns : goal.returns
returns c =
    rw (
      c.in_ok-push-2.ensures.items,
      c.in_ok-push_labelled-5.ensures,
      c.in_ok-push_labelled-4.ensures,
      c.in_ok-push_labelled-3.ensures,
      c.in_ok-push_labelled-2.ensures,
      c.in_ok-extend_from_slice-2.ensures.items,
      c.part_name.ensures,
      c.in_ok-extend_from_slice.ensures.items,
      c.in_ok-push_reply.ensures,
      c.in_ok-push.ensures.items,
      c.in_ok-push_labelled.ensures,
    )
    (simp append_assoc)
