use Rattle.px_parse.proofs.law.one_refusal.Goals as goal
use Rattle.px_parse.proofs.Programs as programs

pub returns : goal.returns
returns c = λ bytes. record { one_line = programs.one_line bytes; no_program = programs.no_program bytes }
