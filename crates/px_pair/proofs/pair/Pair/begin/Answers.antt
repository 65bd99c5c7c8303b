use Rattle.std.proofs.Common.{sym, ap, subst, ◌∙◌}
use Rattle.px_pair.specs.declared.ends.Ends.{Ends}
use Rattle.px_pair.specs.declared.stage.Stage.TheVariants.{Open}
use Rattle.px_pair.specs.Pair.{State, IsPair, CanCall}
use Rattle.px_pair.proofs.Pairs.{begun_is_pair}
use Rattle.px_pair.proofs.pair.Pair.begin.Goals as goal

pub invariant_of-self-2 : goal.invariant_of-self-2
invariant_of-self-2 c =
    subst (λ (x : Ends). IsPair (record { ends = x; stage = Open })) (sym c.in_ok-begin.ensures.ok)
    (begun_is_pair (record { ends = c.self.inside.ends; stage = c.self.inside.stage }) c.self.invariant (ap (λ (p : State). p.stage) c.self.view_is ∙ c.requires.idle) c.args.method c.args.args.now
    (subst (CanCall c.args.method c.args.args.now) (sym c.self.view_is) c.requires.callable))
