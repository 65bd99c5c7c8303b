-- What is found in one part after another.
use Rattle.std.proofs.Common.{◌≡◌, List, [], ◌++◌, append_assoc, append-nil, Result, Ok, Err, OnOk, refl, sym, ap, ◌∙◌}
use Rattle.px_lowering.specs.declared.allocations.Allocation.{Allocation}

abbrev A : Type 0
A = List Allocation

pub none_found : (f w : A) → w ≡ [] → f ≡ f ++ w
none_found f w h = sym (append-nil f) ∙ ap (λ (zs : A). f ++ zs) (sym h)

pub then_one : {B E : Type 0} (r : Result B E) (f0 f1 f2 x y w : A) → f1 ≡ f0 ++ x → w ≡ x ++ y → OnOk r (f2 ≡ f1 ++ y) → OnOk r (f2 ≡ f0 ++ w)
then_one (Ok v) f0 f1 f2 x y w a q h = h ∙ ap (λ (zs : A). zs ++ y) a ∙ append_assoc f0 x y ∙ ap (λ (zs : A). f0 ++ zs) (sym q)
then_one (Err e) f0 f1 f2 x y w a q h = h

pub then_two : {B E : Type 0} (r : Result B E) (f0 f1 f2 f3 x y z w : A) → f1 ≡ f0 ++ x → f2 ≡ f1 ++ y → w ≡ x ++ (y ++ z) → OnOk r (f3 ≡ f2 ++ z) → OnOk r (f3 ≡ f0 ++ w)
then_two r f0 f1 f2 f3 x y z w a b q h = then_one r f0 f1 f3 x (y ++ z) w a q (then_one r f1 f2 f3 y z (y ++ z) b refl h)

pub then_three : {B E : Type 0} (r : Result B E) (f0 f1 f2 f3 f4 x y z u w : A) → f1 ≡ f0 ++ x → f2 ≡ f1 ++ y → f3 ≡ f2 ++ z → w ≡ x ++ (y ++ (z ++ u)) → OnOk r (f4 ≡ f3 ++ u) → OnOk r (f4 ≡ f0 ++ w)
then_three r f0 f1 f2 f3 f4 x y z u w a b c q h = then_one r f0 f1 f4 x (y ++ (z ++ u)) w a q (then_two r f1 f2 f3 f4 y z u (y ++ (z ++ u)) b c refl h)
