-- What is found in a text that the grammar gives a program.
use Rattle.std.proofs.Common.{◌≡◌, ℕ, List, Result, Ok, Err, IfOk}
use Rattle.px_tree.specs.declared.Program.{Program}
use Rattle.px_parse.specs.Programs.{IsProgram}
use Rattle.px_sql.specs.Tables.{schema_of}
use Rattle.px_main.specs.Whole.{Found, IsFound, grammatical, by_tables}

pub found_by : {E : Type 0} (bytes : List ℕ) (program : Program) → IsProgram bytes program → (r : Result Found E) → IfOk r (λ found. found ≡ by_tables program (schema_of program.tables)) → IfOk r (λ found. IsFound bytes found)
found_by bytes program is (Ok found) h = grammatical program is h
found_by bytes program is (Err e) h = tt
