use Rattle.px_lex.proofs.Identifiers.{identifiers}
use Rattle.px_lex.proofs.law.identifiers_are_tokens.Goals as goal

pub returns : goal.returns
returns c = identifiers
