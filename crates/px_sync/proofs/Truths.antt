-- Tests of lists, pairs and sides, and what they tell.
use Rattle.std.proofs.Common.{◌≡◌, ℕ, nat_eq, Bool, true, false, ◌&&◌, ◌||◌, List, [], ◌∷◌, refl, sym, ap, ◌∙◌, ◌⊎◌, inl, inr, ⊎_elim, subst, arith}
use Rattle.std.specs.List.{list_any}
use Rattle.px_constraints.specs.System.{At}
use Rattle.px_flow_points.specs.declared.part.Part.{Part}
use Rattle.px_flow_points.specs.declared.part.Part.TheVariants.{Field, Elements}
use Rattle.px_flow_points.specs.declared.part.Pair.{Pair}
use Rattle.px_flow_points.specs.ByNode.{pair}
use Rattle.px_flow_points.proofs.Elements.{in_none, in_cons, in_head, in_tail}
use Rattle.px_flow_points.proofs.TouchWhere.{equal_numbers}
use Rattle.px_blocks.specs.declared.side.Side.{Side}
use Rattle.px_blocks.specs.declared.side.Side.TheVariants.{App, Db}
use Rattle.px_blocks.specs.Sides.{same_side}
use Rattle.px_sync.specs.Found.{same_part, same_pair, has}

-- ---- truths

pub or_cases : (a b : Bool) → (a || b) ≡ true → (a ≡ true) ⊎ (b ≡ true)
or_cases true b h = inl refl
or_cases false b h = inr h

pub or_first : (a b : Bool) → a ≡ true → (a || b) ≡ true
or_first true b h = refl
or_first false b h = cc

pub or_second : (a b : Bool) → b ≡ true → (a || b) ≡ true
or_second true b h = refl
or_second false b h = h

pub and_first : (a b : Bool) → (a && b) ≡ true → a ≡ true
and_first true b h = refl
and_first false b h = h

pub and_second : (a b : Bool) → (a && b) ≡ true → b ≡ true
and_second true b h = h
and_second false b h = cc

pub and_both : (a b : Bool) → a ≡ true → b ≡ true → (a && b) ≡ true
and_both true b h k = k
and_both false b h k = h

-- ---- lists

-- one of the list passes the test
pub record Passes {A : Type 0} (test : A → Bool) (xs : List A) : Type 0 where
  pub item : A
  pub at : At xs item
  pub passes : test item ≡ true

pub any_to : {A : Type 0} (test : A → Bool) (xs : List A) → list_any test xs ≡ true → Passes test xs
any_to test [] h = cc
any_to test (x ∷ xs) h = ⊎_elim
    (λ (e : test x ≡ true). record { item = x; at = in_head x xs; passes = e })
    (λ (e : list_any test xs ≡ true). let r = any_to test xs e in record { item = r.item; at = in_tail x xs r.item r.at; passes = r.passes })
    (or_cases (test x) (list_any test xs) h)

pub any_back : {A : Type 0} (test : A → Bool) (xs : List A) (x : A) → At xs x → test x ≡ true → list_any test xs ≡ true
any_back test [] x h e = absurd (in_none x h)
any_back {A} test (y ∷ xs) x h e = ⊎_elim
    (λ (u : y ≡ x). or_first (test y) (list_any test xs) (subst (λ (z : A). test z ≡ true) (sym u) e))
    (λ (u : At xs x). or_second (test y) (list_any test xs) (any_back test xs x u e))
    (in_cons y xs x h)

-- ---- pairs

self_number : (n : ℕ) → nat_eq n n ≡ true
self_number n = grind arith

same_part_to : (p q : Part) → same_part p q ≡ true → p ≡ q
same_part_to (Field a) (Field b) h = ap Field (equal_numbers a b h)
same_part_to (Field a) Elements h = cc
same_part_to Elements (Field b) h = cc
same_part_to Elements Elements h = refl

same_part_self : (p : Part) → same_part p p ≡ true
same_part_self (Field a) = self_number a
same_part_self Elements = refl

pub same_pair_to : (p q : Pair) → same_pair p q ≡ true → p ≡ q
same_pair_to p q h =
    let s = equal_numbers p.site q.site (and_first (nat_eq p.site q.site) (same_part p.part q.part) h) in
    let t = same_part_to p.part q.part (and_second (nat_eq p.site q.site) (same_part p.part q.part) h) in
    ap (λ (n : ℕ). pair n p.part) s ∙ ap (λ (r : Part). pair q.site r) t

pub same_pair_self : (p : Pair) → same_pair p p ≡ true
same_pair_self p = and_both (nat_eq p.site p.site) (same_part p.part p.part) (self_number p.site) (same_part_self p.part)

pub has_to : (p : Pair) (pairs : List Pair) → has p pairs ≡ true → At pairs p
has_to p pairs h = let r = any_to (λ q. same_pair q p) pairs h in subst (λ (q : Pair). At pairs q) (same_pair_to r.item p r.passes) r.at

pub has_back : (p : Pair) (pairs : List Pair) → At pairs p → has p pairs ≡ true
has_back p pairs h = any_back (λ q. same_pair q p) pairs p h (same_pair_self p)

-- ---- sides

pub same_side_to : (a b : Side) → same_side a b ≡ true → a ≡ b
same_side_to App App h = refl
same_side_to App Db h = cc
same_side_to Db App h = cc
same_side_to Db Db h = refl

pub same_side_self : (a : Side) → same_side a a ≡ true
same_side_self App = refl
same_side_self Db = refl

pub same_side_back : (a b : Side) → a ≡ b → same_side a b ≡ true
same_side_back a b e = subst (λ (z : Side). same_side a z ≡ true) e (same_side_self a)
