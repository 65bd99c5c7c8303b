use Rattle.std.proofs.Common.{subst}
use Rattle.px_parse.specs.Programs.{IsJudged}
use Rattle.px_parse.proofs.program.parse.Goals as goal

pub program_of-requires-clause-text : goal.program_of-requires-clause-text
program_of-requires-clause-text c = subst (IsJudged c.args.bytes.now) c.in-None.is c.in_ok-tokens.ensures.refused
