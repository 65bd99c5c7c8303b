-- What the rules of the whole language find in a program file.
use Rattle.std.specs.Prelude.{◌≡◌, ℕ, List, Option, Some, None, Result, Ok, Err, slice_get}
use Rattle.px_tree.specs.declared.Program.{Program}
use Rattle.px_facts.specs.declared.checked.Checked.{Checked}
use Rattle.px_parse.specs.Programs.{IsProgram}
use Rattle.px_parse.specs.Places.{IsRefusedAt}
use Rattle.px_parse.specs.Places.{line_at}
use Rattle.px_sql.specs.Tables.{schema_of}
use Rattle.px_value.specs.declared.schema.Schema.{Schema}
use Rattle.px_tree.specs.declared.TableDecl.{TableDecl}
use Rattle.px_type_rules.specs.declared.breach.Breach.{Breach}
use Rattle.px_types.specs.Programs.{first_breach_of}
use Rattle.px_types.specs.Checked.{checked_of, line_in}
use Rattle.px_main.specs.declared.fault.Fault.{Fault}
use Rattle.px_main.specs.declared.fault.ProgramCode.{ProgramCode}
use Rattle.px_main.specs.declared.fault.ProgramCode.TheVariants.{TooLong, Syntax, Rule}

-- a program with all that is known of it, or what is wrong with its file
abbrev pub Found : Type 0
Found = Result Checked Fault

abbrev pub fault_at : ℕ → ProgramCode → Fault
fault_at number code = record { line = number; code = code }

-- a program over its tables by its first breach, which is at its token's line
abbrev pub by_rules : Program → Schema → Option Breach → Found
by_rules program schema None = Ok (checked_of program schema)
by_rules program schema (Some breach) = Err (fault_at (line_in (slice_get program.tokens breach.token)) (Rule breach.code))

-- a table is at the line of its name
abbrev pub table_line : Program → Option TableDecl → ℕ
table_line program None = 0
table_line program (Some table) = line_at program.tokens table.name.token

-- Tables stand before all else, so the first that breaks its rule is the first breach.
abbrev pub by_tables : Program → Result Schema ℕ → Found
by_tables program (Err index) = Err (fault_at (table_line program (slice_get program.tables index)) (Rule 16))
by_tables program (Ok schema) = by_rules program schema (first_breach_of schema program)

-- What is found in a text: it is no program, from the first token with which none goes on; or it is the one program that the grammar
-- gives it, which breaks a rule or keeps them all.
pub data IsFound (bytes : List ℕ) (found : Found) : Type 0 where
  ungrammatical : (number : ℕ) → IsRefusedAt bytes number → found ≡ Err (fault_at number Syntax) → IsFound bytes found
  grammatical : (program : Program) → IsProgram bytes program → found ≡ by_tables program (schema_of program.tables) → IsFound bytes found

-- Of a program file nothing is kept where it is too long. The first of these applies: it is too long; there is a fault in its text; it is
-- accepted.
abbrev pub JudgesWhole : Option (List ℕ) → Found → Type 0
JudgesWhole None found = found ≡ Err (fault_at 0 TooLong)
JudgesWhole (Some bytes) found = IsFound bytes found
