-- The answer of a part is handed on.
use Rattle.std.proofs.Common.{◌≡◌, Result, Ok, Err, IfOk, OnOk, sym, ◌∙◌}
use Rattle.px_lowering.specs.declared.draft.Draft.{Draft}

pub handed : {A E : Type 0} (r : Result A E) (x y : A) → y ≡ x → IfOk r (λ v. v ≡ x) → IfOk r (λ v. v ≡ y)
handed (Ok v) x y q h = h ∙ sym q
handed (Err e) x y q h = h

pub handed_out : {A E : Type 0} (r : Result A E) (o x y : Draft) → y ≡ x → OnOk r (o ≡ x) → OnOk r (o ≡ y)
handed_out (Ok v) o x y q h = h ∙ sym q
handed_out (Err e) o x y q h = h
