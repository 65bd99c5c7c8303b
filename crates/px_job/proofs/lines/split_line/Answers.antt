use Rattle.std.proofs.Common.{arith}
use Rattle.px_job.proofs.LinesCut.{line_on, line_ends, line_last}
use Rattle.px_job.proofs.lines.split_line.Goals as goal

pub returns-then-end-gt0-clause-lines : goal.returns-then-end-gt0-clause-lines
returns-then-end-gt0-clause-lines c =
    line_ends c.args.bytes.now c.loop-len.len c.end_len-end.result c.end_len-end.ensures.ends (omega arith) c.loop-len.invariant.lines

pub loop-len-preserved : goal.loop-len-preserved
loop-len-preserved c = record {
  lines = line_on c.args.bytes.now c.loop-len.len c.end_len-end.result (omega arith) c.end_len-end.ensures.ends (omega arith) c.loop-len.invariant.lines;
  within = omega arith;
}

pub returns-clause-lines : goal.returns-clause-lines
returns-clause-lines c = line_last c.args.bytes.now c.loop-len.len (omega arith) (omega arith) c.loop-len.invariant.lines
