-- Objects that are made.
use Rattle.std.proofs.Common.{◌≡◌, ℕ, List, length, Result, sym, subst}
use Rattle.px_value.specs.declared.value.Value.{Value}
use Rattle.px_value.specs.declared.value.Value.TheVariants.{Ref}
use Rattle.px_value.specs.declared.object.Object.{Object}
use Rattle.px_value.specs.declared.header.Header.{Header}
use Rattle.px_value.specs.declared.header.Kind.{Kind}
use Rattle.px_effects.specs.Act.{Firsts, Act, acted, Makes}
use Rattle.px_effects.specs.Cells.{comes}
use Rattle.px_acts.specs.declared.stop.Stop.{Stop}
use Rattle.px_acts.specs.Ends.{Ends}

abbrev pub header : Kind → ℕ → ℕ → Header
header k site n = record { kind = k; site = site; length = n }

abbrev pub makes : Kind → ℕ → ℕ → Act
makes k site n = Makes (header k site n) (λ object. comes (Ref object))

-- what `allocate` says
abbrev pub Allocates : Kind → ℕ → List Value → List Object → Result Value Stop → List Object → Type 0
Allocates k site cells heap r new = (firsts : Firsts) → firsts (header k site (length cells)) ≡ cells → Ends (acted firsts (makes k site (length cells)) heap) r new

-- an object of so many cells, which are its first ones
pub made : (firsts : Firsts) (k : Kind) (site n : ℕ) (cells : List Value) (heap : List Object) (r : Result Value Stop) (new : List Object)
    → Allocates k site cells heap r new → length cells ≡ n → cells ≡ firsts (header k site n) → Ends (acted firsts (makes k site n) heap) r new
made firsts k site n cells heap r new there e h =
    subst (λ (m : ℕ). cells ≡ firsts (header k site m) → Ends (acted firsts (makes k site m) heap) r new) e (λ q. there firsts (sym q)) h
