use Rattle.std.proofs.Common.{◌≡◌, ◌≤◌, ◌-◌, length, take, drop, false}
use Rattle.px_job.specs.Words.{is_between, words_of, words_from}
use Rattle.px_job.proofs.Pieces.{with_front}
use Rattle.px_job.proofs.words.word_len.Given as goal

abbrev pub invariant-loop-len : goal.invariant-loop-len
invariant-loop-len l =
    record {
      words : words_of l.line ≡ with_front (take l.len l.line) (words_from l.place (drop l.len l.line));
      begun : is_between l.place ≡ false;
      some : 1 ≤ l.len;
      within : l.len ≤ length l.line;
    }

abbrev pub decreases-loop-len : goal.decreases-loop-len
decreases-loop-len l = length l.line - l.len
