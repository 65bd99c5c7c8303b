use Rattle.std.proofs.Common.{◌≡◌, ℕ, ◌+◌, ◌-◌, ◌≤◌, ◌++◌, length, drop}
use Rattle.px_lex.specs.Cutting.{cut}
use Rattle.px_lex.proofs.lexer.lex.Given as goal

abbrev pub invariant-loop-from : goal.invariant-loop-from
invariant-loop-from l = record {
  within : l.from ≤ length l.bytes;
  few : l.line ≤ l.from + 1;
  count : length l.tokens.items ≤ l.from;
  same : (n : ℕ) × (length l.bytes ≤ n + l.from) × (cut (length l.bytes) 0 1 l.bytes ≡ l.tokens.items ++ cut n l.from l.line (drop l.from l.bytes));
}

abbrev pub decreases-loop-from : goal.decreases-loop-from
decreases-loop-from l = length l.bytes - l.from
