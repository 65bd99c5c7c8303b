-- The numbers of the code of an accepted program exist.
use Rattle.std.proofs.Common.{◌≡◌, ℕ, List, Option, Some, None, option_map, refl, sym, subst}
use Rattle.px_value.specs.declared.schema.Schema.{Schema}
use Rattle.px_tree.specs.declared.Program.{Program}
use Rattle.px_parse.specs.Programs.{IsProgram}
use Rattle.px_types.specs.Checked.{fault_at, fault_of, checked_of}
use Rattle.px_types.specs.Programs.{first_breach_of}
use Rattle.px_facts.specs.declared.checked.Checked.{Checked}
use Rattle.px_normal.specs.declared.code.Code.{Code}
use Rattle.px_lowering.specs.Programs.{lowered}
use Rattle.px_flow_points.specs.There.{NumbersExist}
use Rattle.px_two_ends.proofs.Programs.{numbers_exist}

no_breach : {A B : Type 0} (f : A → B) (o : Option A) → option_map f o ≡ None → o ≡ None
no_breach f None h = refl
no_breach f (Some x) h = cc

-- of a text that was read, checked and lowered
pub read_exists : (bytes : List ℕ) (program : Program) (schema : Schema) (checked : Checked) (code : Code) → IsProgram bytes program → fault_of program schema ≡ None → checked ≡ checked_of program schema → code ≡ lowered checked → NumbersExist code
read_exists bytes program schema checked code is kept same made =
    let breach : first_breach_of schema program ≡ None = no_breach (fault_at program.tokens) (first_breach_of schema program) kept in
    subst NumbersExist (sym made) (subst (λ (z : Checked). NumbersExist (lowered z)) (sym same) (numbers_exist bytes program schema (record { program_is = is; kept = breach })))
