use Rattle.std.proofs.Common.{List, length, arith, sym, subst}
use Rattle.px_lex.specs.declared.token.Token.{Token}
use Rattle.px_lex.specs.Lexical.{IsCut}
use Rattle.px_lex.proofs.FirstPieces.{first_piece}
use Rattle.px_lex.proofs.OneCut.{cut_is, only_cut}
use Rattle.px_lex.proofs.law.longest_match.Goals as goal

pub returns-clause-piece : goal.returns-clause-piece
returns-clause-piece c = first_piece

pub returns-clause-tokens : goal.returns-clause-tokens
returns-clause-tokens c bytes tokens = (
  λ h. only_cut (length bytes) 0 1 bytes tokens (omega arith) h,
  λ e. subst (λ (ts : List Token). IsCut 0 1 bytes ts) (sym e) (cut_is (length bytes) 0 1 bytes (omega arith)),
)
