use Rattle.std.proofs.Common.{◌≡◌, ◌+◌, ◌≤◌, length, drop}
use Rattle.px_lex.specs.Ahead.{ahead_of, closings_of}
use Rattle.px_lex.proofs.ahead.closings.Given as goal

abbrev pub invariant-loop-at : goal.invariant-loop-at
invariant-loop-at l = record {
  within : l.at ≤ length l.bytes;
  size : length l.closings.items ≡ length l.bytes;
  behind : l.behind ≡ ahead_of (drop l.at l.bytes);
  beyond : l.beyond ≡ ahead_of (drop (l.at + 1) l.bytes);
  done : drop l.at l.closings.items ≡ closings_of (drop l.at l.bytes);
}

abbrev pub decreases-loop-at : goal.decreases-loop-at
decreases-loop-at l = l.at
