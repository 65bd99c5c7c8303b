use Rattle.std.proofs.Common.{◌++◌, List, ℕ, append-nil, sym, ap, ◌∙◌}
use Rattle.px_depend.specs.declared.places.Place.{Place}
use Rattle.px_depend.specs.Places.{others}
use Rattle.px_depend.proofs.Lists.{passing_true, passing_false}
use Rattle.px_depend.proofs.summary.add_passing.Goals as goal

pub returns-in_ok-add_unless : goal.returns-in_ok-add_unless
returns-in_ok-add_unless c =
    c.in_ok-add_unless.ensures c.as_slice.result.now c.in_ok-set.ensures
    ∙ ap (λ (z : List ℕ). c.args.into.now.items ++ others z c.args.places.now) c.as_slice.ensures.value
    ∙ ap (λ (z : List Place). c.args.into.now.items ++ z) (sym (passing_true c.args.by.now c.args.places.now c.if-by.true))

pub returns-else-by : goal.returns-else-by
returns-else-by c = sym (ap (λ (z : List Place). c.args.into.now.items ++ z) (passing_false c.args.by.now c.args.places.now c.if-by.false) ∙ append-nil c.args.into.now.items)
