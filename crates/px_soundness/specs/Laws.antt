-- What the type rules promise of a program that they accept.
use Rattle.std.specs.Prelude.{◌≡◌, ℕ, true, List, Some, None, map, length}
use Rattle.px_value.specs.declared.schema.Schema.{Schema}
use Rattle.px_value.specs.declared.schema.Table.{Table}
use Rattle.px_tree.specs.declared.Program.{Program}
use Rattle.px_tree.specs.declared.Method.{Method}
use Rattle.px_facts.specs.declared.checked.MethodFact.{MethodFact}
use Rattle.px_parse.specs.Programs.{IsProgram}
use Rattle.px_types.specs.Programs.{first_breach_of}
use Rattle.px_types.specs.Checked.{facts_of, checked_of}
use Rattle.px_rows.specs.Tables.{Tables}
use Rattle.px_mean.specs.Asks.{by_tables}
use Rattle.px_mean.specs.Facts.{by_number}
use Rattle.px_mean.specs.Program.{methods_of, source_from}
use Rattle.px_mean.specs.Serial.{Call, serial}
use Rattle.px_mean.specs.Typed.{are_kept}
use Rattle.px_mean.specs.Typing.{IsTyped}
use Rattle.px_mean.specs.TypedRuns.{OperationsFit, Passes, AreTypedCalls, IsTypedStand}
use Rattle.px_uses.specs.Uses.{AreUsed}

-- a text's program, without a breach of the rules over some tables
pub record IsAccepted (bytes : List ℕ) (program : Program) (schema : Schema) : Type 0 where
  pub program_is : IsProgram bytes program
  pub kept : first_breach_of schema program ≡ None

-- how wide the rows of each table are
abbrev pub width_of : Table → ℕ
width_of table = length table.columns

abbrev pub widths_of : Schema → List ℕ
widths_of schema = map width_of schema.tables

-- What is known of an accepted program is true of its trees.
abbrev pub AcceptedIsTyped : Type 0
AcceptedIsTyped = (bytes : List ℕ) (program : Program) (schema : Schema) → IsAccepted bytes program schema → IsTyped (source_from (checked_of program schema))

-- The parts of its methods are used as the rules say: what is tested is a boolean, what indexes is an int, a query asks for rows, and so on.
abbrev pub AcceptedIsUsed : Type 0
AcceptedIsUsed = (bytes : List ℕ) (program : Program) (schema : Schema) → IsAccepted bytes program schema
    → (number : ℕ) (m : Method) (fact : MethodFact) → by_number (methods_of program.classes) number ≡ Some m → by_number (facts_of schema program).methods number ≡ Some fact
    → AreUsed (facts_of schema program) fact.result m.body

-- What it asks fits the tables that it declares.
abbrev pub OperationsFitSchema : Type 0
OperationsFitSchema = (bytes : List ℕ) (program : Program) (schema : Schema) → IsAccepted bytes program schema → OperationsFit (widths_of schema) (facts_of schema program)

-- Its serial run, over tables of that schema and on calls with arguments of the entries' types, leaves all heaps typed, and the tables too.
abbrev pub RunsStayTyped : Type 0
RunsStayTyped = (bytes : List ℕ) (program : Program) (schema : Schema) (sessions : ℕ) (tables : Tables) (calls : List Call)
    → IsAccepted bytes program schema → are_kept (widths_of schema) tables ≡ true → AreTypedCalls (facts_of schema program) calls
    → IsTypedStand (facts_of schema program) (Passes (are_kept (widths_of schema))) (serial by_tables (source_from (checked_of program schema)) sessions tables calls).1
