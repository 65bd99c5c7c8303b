-- What the answers of `whole` cite.
use Rattle.std.proofs.Common.{◌≡◌, ℕ, Option, Some, None, Ok, Err, sym, ap}
use Rattle.std.specs.Option.{option_map}
use Rattle.px_tree.specs.declared.Program.{Program}
use Rattle.px_facts.specs.declared.checked.Checked.{Checked}
use Rattle.px_type_rules.specs.declared.breach.Breach.{Breach}
use Rattle.px_types.specs.declared.error.CheckError.{CheckError}
use Rattle.px_types.specs.declared.error.CheckError.TheVariants.{TypeFault}
use Rattle.px_types.specs.Programs.{first_breach_of}
use Rattle.px_types.specs.Checked as rules
use Rattle.px_main.specs.declared.fault.ProgramCode.TheVariants.{Rule}
use Rattle.px_value.specs.declared.schema.Schema.{Schema}
use Rattle.px_main.specs.Whole.{fault_at, by_rules}

checked_by : (p : Program) (S : Schema) (c : Checked) (first : Option Breach) → c ≡ rules.checked_of p S → option_map (rules.fault_at p.tokens) first ≡ None → Ok c ≡ by_rules p S first
checked_by p S c None is none = ap (λ (x : Checked). Ok x) is
checked_by p S c (Some b) is none = cc

pub checked_found : (p : Program) (S : Schema) (c : Checked) → c ≡ rules.checked_of p S → rules.fault_of p S ≡ None → Ok c ≡ by_rules p S (first_breach_of S p)
checked_found p S c is none = checked_by p S c (first_breach_of S p) is none

abbrev line_of : Option CheckError → ℕ
line_of (Some (TypeFault line code)) = line
line_of _ = 0

abbrev code_of : Option CheckError → ℕ
code_of (Some (TypeFault line code)) = code
code_of _ = 0

fault_by : (p : Program) (S : Schema) (line code : ℕ) (first : Option Breach) → option_map (rules.fault_at p.tokens) first ≡ Some (TypeFault line code) → Err (fault_at line (Rule code)) ≡ by_rules p S first
fault_by p S line code None is = cc
fault_by p S line code (Some b) is =
    let lines = ap line_of is in
    let codes = ap code_of is in
    sym (λ i. Err (fault_at (lines i) (Rule (codes i))))

pub fault_found : (p : Program) (S : Schema) (line code : ℕ) → rules.fault_of p S ≡ Some (TypeFault line code) → Err (fault_at line (Rule code)) ≡ by_rules p S (first_breach_of S p)
fault_found p S line code is = fault_by p S line code (first_breach_of S p) is
