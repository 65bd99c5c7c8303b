use Rattle.std.proofs.Common.{◌≡◌, ◌+◌, ◌≤◌, length, false}
use Rattle.std.specs.Option.{option_map}
use Rattle.px_job.specs.Texts.{text_from}
use Rattle.px_job.proofs.texts.body_len.Given as goal

abbrev pub invariant-loop-rest : goal.invariant-loop-rest
invariant-loop-rest l =
    record {
      same : option_map (λ text. l.len + length text) (text_from l.escaped l.rest) ≡ option_map length (text_from false l.body);
      within : l.len + length l.rest ≤ length l.body;
    }

abbrev pub decreases-loop-rest : goal.decreases-loop-rest
decreases-loop-rest l = length l.rest
