use Rattle.px_faithful.proofs.Whole.{few_events as law}
use Rattle.px_faithful.proofs.law.few_events.Goals as goal

pub returns : goal.returns
returns c = law
