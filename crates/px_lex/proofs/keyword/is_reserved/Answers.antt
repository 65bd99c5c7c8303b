use Rattle.px_lex.specs.Keywords.{is_reserved}
use Rattle.px_lex.proofs.keyword.is_reserved.Goals as goal

pub returns : goal.returns
unfolding is_reserved
returns c = c.is_among.ensures
