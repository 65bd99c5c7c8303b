-- What the machine takes, a program begins with.
use Rattle.std.proofs.Common.{◌≡◌, List, [], ◌∷◌, ◌++◌, Option, Some, refl, sym, ap, ◌∙◌, append-nil}
use Rattle.px_accept.specs.declared.role.Role.{Role}
use Rattle.px_accept.specs.declared.role.Role.TheVariants.{End}
use Rattle.px_accept.specs.declared.symbol.Symbol.{Symbol}
use Rattle.px_accept.specs.Machine.{run, start}
use Rattle.px_accept.specs.Grammar as g
use Rattle.px_accept.specs.Grammar.{Spelled, BeginsProgram}
use Rattle.px_accept.proofs.RunSound.{run_sound}
use Rattle.px_accept.proofs.Completions.{all_end}

-- a program begins with what the machine takes
pub viable : (ts : List Role) (st : List Symbol) → run start ts ≡ Some st → BeginsProgram ts
viable ts st e =
    let w = all_end st [] in
    let c = run_sound ts w.roles start st e w.ends in
    record { program = c.1.roles; more = w.roles; same = ap (λ (us : List Role). c.1.roles ++ End ∷ us) (sym c.2) ∙ sym c.1.same; spelled = c.1.spelled }

-- what the machine takes to the end is a program
pub whole : (ts : List Role) → (let end : Option (List Symbol) = Some [] in run start ts ≡ end) → (a : List Role) × (a ++ End ∷ [] ≡ ts) × Spelled g.Program a
whole ts e =
    let c = run_sound ts [] start [] e refl in
    (c.1.roles, ap (λ (us : List Role). c.1.roles ++ End ∷ us) (sym c.2) ∙ sym c.1.same ∙ append-nil ts, c.1.spelled)
