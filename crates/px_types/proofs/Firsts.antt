-- The least breach that a walk has kept is the least of all.
use Rattle.std.proofs.Common.{◌≡◌, ℕ, ◌+◌, Bool, true, false, List, [], ◌∷◌, Option, None, if◌then◌else◌, refl}
use Rattle.std.specs.Prelude.{nat_lt}
use Rattle.px_value.specs.declared.schema.Schema.{Schema}
use Rattle.px_tree.specs.declared.Program.{Program}
use Rattle.px_type_rules.specs.declared.breach.Breach.{Breach}
use Rattle.px_type_rules.specs.declared.report.Report.{Report}
use Rattle.px_type_rules.specs.Breaches.{Note, Fault, New, OneMethod, at, lesser, least, breaches, noted, after, max_news, max_methods}
use Rattle.px_types.specs.Programs.{no_report, notes_of, first_breach_of}

abbrev report : Option Breach → ℕ → ℕ → Report
report first news methods = record { first = first; news = news; methods = methods }

-- what is kept behind these notes is the least breach
abbrev KeepsLeast : List Note → Type 0
KeepsLeast ns = (first : Option Breach) (news methods : ℕ) → (after (report first news methods) ns).first ≡ least first (breaches news methods ns)

new_step : (fitting : Bool) (first : Option Breach) (news methods token : ℕ) (ns : List Note) → KeepsLeast ns
    → (after (if fitting then report first (news + 1) methods else report (lesser first (at token 17)) news methods) ns).first
    ≡ least first (if fitting then breaches (news + 1) methods ns else at token 17 ∷ breaches news methods ns)
new_step true first news methods token ns rest = rest first (news + 1) methods
new_step false first news methods token ns rest = rest (lesser first (at token 17)) news methods

method_step : (fitting : Bool) (first : Option Breach) (news methods token : ℕ) (ns : List Note) → KeepsLeast ns
    → (after (if fitting then report first news (methods + 1) else report (lesser first (at token 17)) news methods) ns).first
    ≡ least first (if fitting then breaches news (methods + 1) ns else at token 17 ∷ breaches news methods ns)
method_step true first news methods token ns rest = rest first news (methods + 1)
method_step false first news methods token ns rest = rest (lesser first (at token 17)) news methods

keeps_least : (ns : List Note) → KeepsLeast ns
unfolding noted
keeps_least [] first news methods = refl
keeps_least (Fault token code ∷ ns) first news methods = keeps_least ns (lesser first (at token code)) news methods
keeps_least (New token ∷ ns) first news methods = new_step (nat_lt news max_news) first news methods token ns (keeps_least ns)
keeps_least (OneMethod token ∷ ns) first news methods = method_step (nat_lt methods max_methods) first news methods token ns (keeps_least ns)

pub first_of_notes : (s : Schema) (p : Program) → (after no_report (notes_of s p)).first ≡ first_breach_of s p
unfolding first_breach_of
first_of_notes s p = keeps_least (notes_of s p) None 0 0
