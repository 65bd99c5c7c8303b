use Rattle.std.proofs.Common.{◌==◌, ◌&&◌, ◌||◌, List, ℕ, ap, ◌∙◌}
use Rattle.std.specs.Str.{bytes_eq}
use Rattle.px_job.specs.Keys.{has_text}
use Rattle.px_job.proofs.KeysMore.{put_or}
use Rattle.px_job.proofs.keys.add_text.Goals as goal

pub returns : goal.returns
returns c = λ t x.
    c.in_ok-insert.ensures.updates.0 (t, x)
    ∙ put_or ((c.args.table == t) && bytes_eq c.in_ok-from_slice.field-0.items x.items) (has_text c.args.texts.now t x)
    ∙ ap (λ (bytes : List ℕ). has_text c.args.texts.now t x || ((c.args.table == t) && bytes_eq bytes x.items)) c.in_ok-from_slice.ensures.items
