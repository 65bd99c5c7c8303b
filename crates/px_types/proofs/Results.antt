-- What is known where a result is a value.
use Rattle.std.proofs.Common.{◌≡◌, ◌≤◌, ◌-◌, List, [], ◌∷◌, ◌++◌, length, take, drop, get_or, Result, Ok, Err, IfOk, OnOk, sym, ap, arith, ◌∙◌}
use Rattle.std.proofs.lemmas.List.{take_rest}
use Rattle.px_type_rules.specs.declared.report.Report.{Report}
use Rattle.px_type_rules.specs.Breaches.{Note, after}
use Rattle.px_types.proofs.Notes.{and_then}

pub same_if : {A E : Type 0} (r : Result A E) (a b : A) → IfOk r (λ x. x ≡ a) → a ≡ b → IfOk r (λ x. x ≡ b)
same_if (Ok x) a b h k = h ∙ k
same_if (Err e) a b h k = tt

pub same_on : {A E X : Type 0} (r : Result A E) (a b c : X) → OnOk r (a ≡ b) → b ≡ c → OnOk r (a ≡ c)
same_on (Ok x) a b c h k = h ∙ k
same_on (Err e) a b c h k = tt

-- what is found in one part, and then in the next
pub then_on : {A E : Type 0} (r : Result A E) (r0 r1 r2 : Report) (xs ys : List Note) (whole : Report)
    → r1 ≡ after r0 xs → OnOk r (r2 ≡ after r1 ys) → after r0 (xs ++ ys) ≡ whole → OnOk r (r2 ≡ whole)
then_on (Ok x) r0 r1 r2 xs ys whole h k e = and_then r0 r1 r2 xs ys h k ∙ e
then_on (Err x) r0 r1 r2 xs ys whole h k e = tt

-- a list by its first item
pub first_of : {X : Type 0} (xs : List X) (x : X) → 1 ≤ length xs → x ≡ get_or xs 0 x → xs ≡ x ∷ drop 1 xs
first_of [] x h e = absurd (omega (arith, h))
first_of (y ∷ ys) x h e = ap (λ z. z ∷ ys) (sym e)

pub first_and_rest : {X : Type 0} (xs : List X) (x : X) → 1 ≤ length xs → x ≡ get_or xs 0 x → xs ≡ x ∷ take (length xs - 1) (drop 1 xs)
first_and_rest xs x h e = first_of xs x h e ∙ ap (λ ys. x ∷ ys) (sym (take_rest xs 1))
