-- Truths of summaries.
use Rattle.std.proofs.Common.{◌≡◌, ℕ, nat_eq, Bool, true, false, not, ◌&&◌, ◌||◌, List, [], ◌∷◌, ◌++◌, refl, sym, ap, ◌∙◌, ◌⊎◌, inl, inr, if◌then◌else◌, arith}
use Rattle.px_depend.specs.Uses.{has, common}

pub and_to : (a b : Bool) → (a && b) ≡ true → (a ≡ true) × (b ≡ true)
and_to true true h = (refl, refl)
and_to true false h = cc
and_to false b h = cc

pub and_back : (a b : Bool) → a ≡ true → b ≡ true → (a && b) ≡ true
and_back true true h k = refl
and_back true false h k = k
and_back false b h k = h

pub or_to : (a b : Bool) → (a || b) ≡ true → (a ≡ true) ⊎ (b ≡ true)
or_to true b h = inl refl
or_to false b h = inr h

pub or_first : (a b : Bool) → a ≡ true → (a || b) ≡ true
or_first true b h = refl
or_first false b h = cc

pub or_second : (a b : Bool) → b ≡ true → (a || b) ≡ true
or_second true b h = refl
or_second false b h = h

or_assoc : (a b c : Bool) → (a || (b || c)) ≡ ((a || b) || c)
or_assoc true b c = refl
or_assoc false b c = refl

and_false : (a : Bool) → (a && false) ≡ false
and_false true = refl
and_false false = refl

pub same_number : (a b : ℕ) → nat_eq a b ≡ true → a ≡ b
same_number a b h = grind arith

pub has_append : (k : ℕ) (xs ys : List ℕ) → has k (xs ++ ys) ≡ (has k xs || has k ys)
has_append k [] ys = refl
has_append k (x ∷ xs) ys = ap (λ (b : Bool). nat_eq k x || b) (has_append k xs ys) ∙ or_assoc (nat_eq k x) (has k xs) (has k ys)

-- both tests pass, or both fail: left as they were by each
pub pass_both : (ca cb ha hb : Bool) → ((ca && cb) && not (ha || hb)) ≡ ((ca && not ha) && (cb && not hb))
pass_both true true true hb = refl
pass_both true true false hb = refl
pass_both true false true hb = refl
pass_both true false false hb = refl
pass_both false cb true hb = refl
pass_both false cb false hb = refl

pub pass_either : (ca cb ha hb : Bool) → ((ca || cb) && not (if ca then (if cb then ha && hb else ha) else hb)) ≡ ((ca && not ha) || (cb && not hb))
pass_either true true true hb = refl
pass_either true true false hb = refl
pass_either true false true hb = refl
pass_either true false false hb = refl
pass_either false true ha hb = refl
pass_either false false ha hb = refl

equal_has : (k x : ℕ) (xs : List ℕ) → nat_eq k x ≡ true → has k xs ≡ has x xs
equal_has k x xs e = ap (λ (n : ℕ). has n xs) (same_number k x e)

common_if : (here there : Bool) (k x : ℕ) (xs ys : List ℕ) → nat_eq k x ≡ here → has x ys ≡ there → has k (common xs ys) ≡ (has k xs && has k ys) → has k (if there then x ∷ common xs ys else common xs ys) ≡ ((here || has k xs) && has k ys)
common_if true true k x xs ys e f rest = ap (λ (b : Bool). b || has k (common xs ys)) e ∙ sym (equal_has k x ys e ∙ f)
common_if false true k x xs ys e f rest = ap (λ (b : Bool). b || has k (common xs ys)) e ∙ rest
common_if true false k x xs ys e f rest = rest ∙ ap (λ (b : Bool). has k xs && b) (equal_has k x ys e ∙ f) ∙ and_false (has k xs) ∙ sym (equal_has k x ys e ∙ f)
common_if false false k x xs ys e f rest = rest

pub has_common : (k : ℕ) (xs ys : List ℕ) → has k (common xs ys) ≡ (has k xs && has k ys)
has_common k [] ys = refl
has_common k (x ∷ xs) ys = common_if (nat_eq k x) (has x ys) k x xs ys refl refl (has_common k xs ys)
