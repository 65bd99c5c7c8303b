-- One pair more is in a set.
use Rattle.std.proofs.Common.{◌≡◌, ℕ, ◌+◌, ◌<◌, Bool, true, false, cond, ◌||◌, List, [], ◌∷◌, length, drop, get_or, refl, sym, ap, ◌∙◌}
use Rattle.std.specs.List.{list_any}
use Rattle.std.specs.HashSet.{HashSet, contains, contains_by}
use Rattle.std.proofs.lemmas.List.{drop_more}
use Rattle.px_flow_points.specs.declared.part.Part.{Part}
use Rattle.px_flow_points.specs.declared.part.Part.TheVariants.{Field, Elements}
use Rattle.px_flow_points.specs.declared.part.Pair.{Pair}
use Rattle.px_flow_points.specs.contracts.part.PairPartialEq.TheImpl.{eq-value}
use Rattle.px_sync.specs.Found.{same_pair, has}

-- ---- the derived equality

abbrev whole : ℕ → Part → Pair
whole s q = record { site = s; part = q }

by_part : (s : ℕ) (p : Part) (r : ℕ) (q : Part) → eq-value.it (whole s p) (whole r q) ≡ same_pair (whole s p) (whole r q)
by_part s (Field a) r (Field b) = refl
by_part s (Field a) r Elements = refl
by_part s Elements r (Field b) = refl
by_part s Elements r Elements = refl

pub derived : (p q : Pair) → eq-value.it p q ≡ same_pair p q
derived p q = by_part p.site p.part q.site q.part

any_alike : {A : Type 0} (f g : A → Bool) → ((x : A) → f x ≡ g x) → (xs : List A) → list_any f xs ≡ list_any g xs
any_alike f g e [] = refl
any_alike f g e (x ∷ xs) = ap (λ (b : Bool). b || list_any f xs) (e x) ∙ ap (λ (b : Bool). g x || b) (any_alike f g e xs)

pub set_has : {S : Type 0} (set : HashSet Pair S) (p : Pair) → contains eq-value.it set p ≡ contains_by (same_pair p) set
set_has set p = any_alike (eq-value.it p) (same_pair p) (derived p) set.keys

-- ---- a loop

put_in : (here old rest : Bool) → (cond here true old || rest) ≡ (old || (here || rest))
put_in true true rest = refl
put_in true false rest = refl
put_in false old rest = refl

pub set_more : {S : Type 0} (pairs : List Pair) (place : ℕ) (pair default p : Pair) (old new : HashSet Pair S) (whole : Bool) → place < length pairs → pair ≡ get_or pairs place default → contains eq-value.it new p ≡ cond (eq-value.it pair p) true (contains eq-value.it old p) → (contains_by (same_pair p) old || has p (drop place pairs)) ≡ whole → (contains_by (same_pair p) new || has p (drop (place + 1) pairs)) ≡ whole
set_more pairs place pair default p old new whole h e u i =
    ap (λ (b : Bool). b || has p (drop (place + 1) pairs)) (sym (set_has new p) ∙ u ∙ ap (λ (b : Bool). cond b true (contains eq-value.it old p)) (derived pair p) ∙ ap (λ (b : Bool). cond (same_pair pair p) true b) (set_has old p))
    ∙ put_in (same_pair pair p) (contains_by (same_pair p) old) (has p (drop (place + 1) pairs))
    ∙ ap (λ (m : Pair). contains_by (same_pair p) old || (same_pair m p || has p (drop (place + 1) pairs))) e
    ∙ ap (λ (rest : List Pair). contains_by (same_pair p) old || has p rest) (sym (drop_more pairs place default h))
    ∙ i
