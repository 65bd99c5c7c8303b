use Rattle.px_parse.proofs.law.one_program.Goals as goal
use Rattle.px_parse.proofs.Programs as programs

pub returns : goal.returns
returns c = programs.one_program
