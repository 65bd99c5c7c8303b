use Rattle.std.proofs.Common.{◌-◌, ◌∙◌, arith}
use Rattle.px_job.proofs.PlacesMore.{place_more}
use Rattle.px_job.proofs.entries.places_of.Goals as goal

pub loop-place-preserved : goal.loop-place-preserved
loop-place-preserved c = record {
  found = λ name. c.in_ok-put.ensures name
      ∙ place_more c.args.entries.now (c.loop-place.place - 1) c.loop-place.place c.index-entries-place.result c.as_slice.result.now name _ (omega arith) (omega arith) c.as_slice.ensures (c.loop-place.invariant.found name);
  within = omega arith;
}
