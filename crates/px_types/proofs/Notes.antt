-- What is found in one part, and then in the next.
use Rattle.std.proofs.Common.{◌≡◌, ◌++◌, List, [], ◌∷◌, refl, sym, ap, ◌∙◌}
use Rattle.px_type_rules.specs.declared.report.Report.{Report}
use Rattle.px_type_rules.specs.Breaches.{Note, noted, after}

pub after_append : (r : Report) (xs ys : List Note) → after r (xs ++ ys) ≡ after (after r xs) ys
after_append r [] ys = refl
after_append r (x ∷ xs) ys = after_append (noted r x) xs ys

pub and_then : (r0 r1 r2 : Report) (xs ys : List Note) → r1 ≡ after r0 xs → r2 ≡ after r1 ys → r2 ≡ after r0 (xs ++ ys)
and_then r0 r1 r2 xs ys h k = k ∙ ap (λ (r : Report). after r ys) h ∙ sym (after_append r0 xs ys)
