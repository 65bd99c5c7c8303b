use Rattle.px_parse.proofs.law.programs_are_read.Goals as goal
use Rattle.px_parse.proofs.CompletePrograms.{program_read}

pub returns : goal.returns
returns c = program_read
