use Rattle.std.proofs.Common.{arith}
use Rattle.px_job.proofs.WordsCut.{word_last}
use Rattle.px_job.proofs.words.word_len.Goals as goal

pub returns-clause-words : goal.returns-clause-words
returns-clause-words c = word_last c.args.line.now c.loop-len.len c.loop-len.place (omega arith) c.loop-len.invariant.begun c.loop-len.invariant.words
