use Rattle.px_job.proofs.SpelledWords.{words_are_spelled}
use Rattle.px_job.proofs.laws.words_are_spelled.Goals as goal

pub returns : goal.returns
returns c = words_are_spelled
