use Rattle.px_job.proofs.ShortTexts.{texts_are_short}
use Rattle.px_job.proofs.laws.texts_are_short.Goals as goal

pub returns : goal.returns
returns c = texts_are_short
