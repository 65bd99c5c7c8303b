use Rattle.std.proofs.Common.{◌≡◌, ◌≤◌, drop}
use Rattle.px_accept.specs.Machine.{nesting, start, refused_from}
use Rattle.px_accept.proofs.accept.read.Given as goal

abbrev pub invariant-loop-place : goal.invariant-loop-place
invariant-loop-place l = record {
  same : refused_from 0 start l.fn.roles ≡ refused_from l.place l.stack (drop l.place l.roles);
  low : nesting l.stack ≤ 100;
}
