use Rattle.std.proofs.Common.{arith}
use Rattle.px_words.proofs.Lexing.{lexemes_more}
use Rattle.px_words.proofs.word.lexemes.Goals as goal

pub loop-number-preserved : goal.loop-number-preserved
loop-number-preserved c = lexemes_more _ _ _ c.args.bytes.now c.args.tokens.now c.loop-number.number _ (omega arith) c.in_ok-push.ensures.items c.lexeme.ensures c.loop-number.invariant
