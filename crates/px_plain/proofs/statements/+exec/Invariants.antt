use Rattle.std.proofs.Common.{◌≡◌, ℕ, ◌+◌, ◌-◌, ◌*◌, ◌≤◌, max, map, drop, Option, Some, None, Bor}
use Rattle.px_tree.specs.declared.Stmt.{Stmt, size-Stmt}
use Rattle.std.specs.Option.{option_copied}
use Rattle.px_value.specs.Outcome.{in_order}
use Rattle.px_mean.specs.Run.{max_turns}
use Rattle.px_plain.specs.View.{frame, does, Keeps}
use Rattle.px_plain.specs.Parts.{looped, loops_behind}
use Rattle.px_plain.proofs.statements.+exec.Given as goal

abbrev size_if : Option (Bor Stmt) → ℕ
size_if None = 0
size_if (Some s) = size-Stmt s.now

abbrev pub decreases-exec : goal.decreases-exec
decreases-exec g l = 5 * size-Stmt l.s.now

abbrev pub decreases-exec_all : goal.decreases-exec_all
decreases-exec_all g l = 5 * goal.size-exec_all g l + 1

abbrev pub decreases-exec_else : goal.decreases-exec_else
decreases-exec_else g l = 5 * goal.size-exec_else g l + 1

abbrev pub decreases-exec_if : goal.decreases-exec_if
decreases-exec_if g l = 5 * max (size-Stmt l.yes.now) (goal.size-exec_if g l) + 2

abbrev pub decreases-exec_last : goal.decreases-exec_last
decreases-exec_last g l = 5 * size_if l.last + 1

abbrev pub decreases-exec_loop : goal.decreases-exec_loop
decreases-exec_loop g l = 5 * max (size_if l.first) (max (size-Stmt l.body.now) (size_if l.last)) + 3

abbrev pub invariant-exec_all-loop-item : goal.invariant-exec_all-loop-item
invariant-exec_all-loop-item g l = record {
  rest : in_order (map (does l.fn.around) l.fn.items) (frame l.fn.slots l.fn.m) ≡ in_order (map (does l.fn.around) (drop l.item-index l.fn.items)) (frame l.slots l.m);
  kept : Keeps l.fn.m l.m;
  turns : l.fn.m.turns ≤ l.m.turns;
}

-- the loop has some number of turns left, with which its meaning is the whole loop's
abbrev pub invariant-exec_loop-loop-value : goal.invariant-exec_loop-loop-value
invariant-exec_loop-loop-value g l = record {
  left : (n : ℕ) × (max_turns + 1 ≤ n + l.m.turns) × (looped l.fn.around (option_copied l.fn.first) l.fn.test (option_copied l.fn.last) l.fn.body (frame l.fn.slots l.fn.m) ≡ loops_behind l.fn.around (option_copied l.before) l.fn.test (option_copied l.fn.last) l.fn.body n (frame l.slots l.m));
  small : size_if l.before ≤ max (size_if l.fn.first) (max (size-Stmt l.fn.body) (size_if l.fn.last));
  kept : Keeps l.fn.m l.m;
  turns : l.fn.m.turns ≤ l.m.turns;
}

abbrev pub decreases-exec_loop-loop-value : goal.decreases-exec_loop-loop-value
decreases-exec_loop-loop-value g l = max_turns + 1 - l.m.turns
