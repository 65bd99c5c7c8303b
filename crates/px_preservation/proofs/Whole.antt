-- What holds of methods, statements and expressions, joined.
use Rattle.std.proofs.Common.{length, refl}
use Rattle.px_lowering.specs.Programs.{lowered}
use Rattle.px_preservation.specs.Laws.{KeepsMeaning}
use Rattle.px_preservation.proofs.Program.{same_program}
use Rattle.px_preservation.proofs.Expressions.{lowers_expr}
use Rattle.px_preservation.proofs.Statements.{lowers_statement}
use Rattle.px_preservation.proofs.Frames.{code_is_source}

-- the code of a typed program does what the program does
pub keeps_meaning : (Q W : Type 0) → KeepsMeaning Q W
keeps_meaning Q W P typed known ask heap world method args =
    let same = same_program P known in
    code_is_source Q W ask P typed
    (λ source_calls calls met m fact t. lowers_statement Q W ask P (lowered P) source_calls calls fact.slots fact.result met (lowers_expr Q W ask P (lowered P) source_calls calls (length fact.slots) met same fact.slots refl) t.completes m.body t.body)
    heap world method args
