use Rattle.std.proofs.Common.{◌≡◌, drop}
use Rattle.px_code.specs.Machine.{steps}
use Rattle.px_half.specs.Machine.{machine_of, closed_of}
use Rattle.px_half.proofs.machine.Machine.run.Given as goal

abbrev pub invariant-loop-statement : goal.invariant-loop-statement
invariant-loop-statement l = record {
  stop : (steps l.fn.statements (machine_of l.fn.self)).stop ≡ (steps (drop l.statement-index l.fn.statements) (machine_of l.self)).stop;
  machine : (steps l.fn.statements (machine_of l.fn.self)).machine ≡ (steps (drop l.statement-index l.fn.statements) (machine_of l.self)).machine;
  closed : closed_of l.self ≡ closed_of l.fn.self;
}
