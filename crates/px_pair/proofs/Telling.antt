-- The statements of a block leave an end whose stack can be told.
use Rattle.std.proofs.Common.{◌≡◌, true, sym, arith}
use Rattle.px_code.specs.declared.frame.Frame.{Frame}
use Rattle.px_code.specs.Machine.{Machine, steps}
use Rattle.px_half.specs.Messages.{frame_told}
use Rattle.px_half.specs.Absorbed.{frame_fits}
use Rattle.px_pair.specs.Law.{RunsAlike}
use Rattle.px_pair.specs.Crossing.{SlotsLead, StepsCanTell}
use Rattle.px_pair.proofs.Steps.{blocks_run_alike}
use Rattle.px_pair.proofs.StackKeeping as keeping
use Rattle.px_pair.proofs.ControlCrossing.{same_length, lead_seen}
use Rattle.px_pair.proofs.Leading.{steps_all, steps_down, steps_lead}

pub steps_can_tell : StepsCanTell
steps_can_tell plan b near far one names placed are plain returns fits agree can =
    let alike : RunsAlike plan b.side far (steps b.statements near) (steps b.statements one) = blocks_run_alike plan b near far one names placed are plain fits agree in
    let one_leads : SlotsLead one.heap one.frames = lead_seen near.heap one.heap one.frames near.frames (same_length one.heap near.heap (λ o. sym (agree.near_headers o))) (sym agree.frames) can.lead in
    let after : Machine = (steps b.statements one).machine in
    let here : Machine = (steps b.statements near).machine in
    record {
      like = keeping.steps_keep_stacks plan b.statements near far can.like;
      base = omega (arith, steps_down b.statements near, can.base);
      frames = steps_all (λ (f : Frame). frame_fits plan (frame_told f) ≡ true) (λ x n y p. p) b.statements near can.frames;
      lead = lead_seen after.heap here.heap here.frames after.frames (same_length here.heap after.heap alike.agree.near_headers) alike.agree.frames
          (steps_lead plan.code b.method b.statements one are plain returns fits one_leads);
    }
