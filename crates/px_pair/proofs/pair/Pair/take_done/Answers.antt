use Rattle.std.proofs.Common.{ap, ◌∙◌, Option}
use Rattle.px_value.specs.declared.thrown.Thrown.{Thrown}
use Rattle.px_pair.specs.declared.stage.Stage.TheVariants.{Ended}
use Rattle.px_pair.proofs.Pairs.{taken_pair}
use Rattle.px_pair.proofs.pair.Pair.take_done.Goals as goal

pub invariant_of-self-in-None : goal.invariant_of-self-in-None
invariant_of-self-in-None c = taken_pair (record { ends = c.self.inside.ends; stage = c.self.inside.stage }) c.self.invariant (c.in-Ended.is ∙ ap (λ (t : Option Thrown). Ended t) c.in-None.is) c.commit.new.self c.in_ok-done-in-None.done c.in_ok-done-in-None.ensures.committed c.commit.ensures.same
