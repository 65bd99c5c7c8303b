use Rattle.std.proofs.Common.{◌≡◌, ◌++◌, map, drop}
use Rattle.px_lowering.specs.Programs.{statement_of}
use Rattle.px_lowering.proofs.copies.statements.Given as goal

abbrev pub invariant-loop-operation : goal.invariant-loop-operation
invariant-loop-operation l = l.all ++ map statement_of (drop l.operation-index l.fn.operations) ≡ map statement_of l.fn.operations
