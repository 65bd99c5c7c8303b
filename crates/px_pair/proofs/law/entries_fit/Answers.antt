use Rattle.px_pair.proofs.Entries.{entries_fit as law}
use Rattle.px_pair.proofs.law.entries_fit.Goals as goal

pub returns : goal.returns
returns c = law
