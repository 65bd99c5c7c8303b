use Rattle.std.proofs.Common.{◌≤◌, ℕ, ◌==◌, ap, ◌∙◌, filter}
use Rattle.px_locks.specs.Spots.{spot_of}
use Rattle.px_locks.proofs.Range.{between, ordered}
use Rattle.px_locks.proofs.spot.at.Goals as goal

pub slice_bounds-result-count : goal.slice_bounds-result-count
slice_bounds-result-count c = ordered spot_of _ c.args.grants.now _ _ c.below-from.ensures.bound c.below-from.ensures.point c.below-end.ensures.point

pub slice_bounds-result-start : goal.slice_bounds-result-start
slice_bounds-result-start c = ordered spot_of _ c.args.grants.now _ _ c.below-from.ensures.bound c.below-from.ensures.point c.below-end.ensures.point

pub returns : goal.returns
returns c =
    let le : c.below-from.result ≤ c.below-end.result = ordered spot_of c.spot-spot.result c.args.grants.now _ _ c.below-from.ensures.bound c.below-from.ensures.point c.below-end.ensures.point in
    between spot_of c.spot-spot.result c.args.grants.now c.below-from.result c.below-end.result c.below-from.ensures.bound c.below-end.ensures.bound c.below-from.ensures.point c.below-end.ensures.point le
    ∙ ap (λ (t : ℕ). filter (λ g. spot_of g == t) c.args.grants.now) c.spot-spot.ensures
