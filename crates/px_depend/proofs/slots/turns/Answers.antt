use Rattle.px_depend.specs.Summaries.{IsOver, IsRound, in_turn}
use Rattle.px_depend.proofs.Branching.{adds_two}
use Rattle.px_depend.proofs.slots.turns.Goals as goal

pub returns-clause-over : goal.returns-clause-over
returns-clause-over c = λ f g h A B C. adds_two c.args.into.now.items c.then.new.into.items c.round.new.into.items (IsOver c.args.types.now f g) (IsRound c.args.types.now (in_turn f g) h) (c.in_ok-head.ensures.over f g A B) (c.in_ok-whole.ensures.over (in_turn f g) h (c.in_ok-head.ensures.sum f g A B) C)
