use Rattle.std.proofs.Common.{◌≡◌, ◌∷◌, [], is_ok, if◌then◌else◌, sym, ap, ◌∙◌, subst}
use Rattle.std.specs.List.{insert}
use Rattle.px_locks.specs.Locks.{IsJoined}
use Rattle.px_locks.specs.Spots.{IsInOrder}
use Rattle.px_locks.proofs.Range.{in_order_put}
use Rattle.px_locks.proofs.In.{joined_insert}
use Rattle.px_locks.proofs.book.insert.Goals as goal

pub returns-clause-sorted : goal.returns-clause-sorted
returns-clause-sorted c =
    let put : c.insert.new.self.items ≡ insert c.args.grants.now.items c.below-place.result c.args.grant = c.insert.ensures.items ∙ ap (λ r. if is_ok r then insert c.args.grants.now.items c.below-place.result c.args.grant else c.args.grants.now.items) c.unwrap.ensures in
    subst IsInOrder (sym put) (in_order_put c.args.grant _ _ _ _ c.as_slice.ensures.value c.spot.ensures c.requires.sorted c.below-place.ensures.bound c.below-place.ensures.point)

pub returns-clause-items : goal.returns-clause-items
returns-clause-items c =
    let put : c.insert.new.self.items ≡ insert c.args.grants.now.items c.below-place.result c.args.grant = c.insert.ensures.items ∙ ap (λ r. if is_ok r then insert c.args.grants.now.items c.below-place.result c.args.grant else c.args.grants.now.items) c.unwrap.ensures in
    subst (IsJoined c.args.grants.now.items (c.args.grant ∷ [])) (sym put) (joined_insert c.args.grant c.below-place.result c.args.grants.now.items)
