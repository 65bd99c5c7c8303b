use Rattle.std.proofs.Common.{◌==◌, ◌&&◌, ◌||◌, ℤ, w64, to_z, of_z, SFits, rules, ap, ◌∙◌}
use Rattle.std.specs.Ordering.{int_eq}
use Rattle.std.proofs.lemmas.Int.{to_z-of_z}
use Rattle.px_job.specs.Keys.{has_number}
use Rattle.px_job.proofs.KeysMore.{put_or}
use Rattle.px_job.proofs.keys.add_number.Goals as goal

pub returns : goal.returns
returns c =
    let fits : SFits w64 c.args.number = search rules in
    λ t n.
    c.in_ok-insert.ensures.updates.0 (t, n)
    ∙ put_or ((c.args.table == t) && int_eq (to_z w64 (of_z w64 c.args.number)) n) (has_number c.args.numbers.now t n)
    ∙ ap (λ (own : ℤ). has_number c.args.numbers.now t n || ((c.args.table == t) && int_eq own n)) (to_z-of_z w64 c.args.number fits)
