-- Grants that stand in a list.
use Rattle.std.proofs.Common.{◌≡◌, ◌⊎◌, ℕ, ℤ, Bool, true, false, ◌==◌, ◌||◌, List, [], ◌∷◌, ◌++◌, take, drop, filter, Option, Some, None, refl, sym, ap, ◌∙◌, subst, inl, inr, if◌then◌else◌}
use Rattle.std.proofs.lemmas.Bool.{and_parts, or_cases, both_ways, cases_Bool, cond-true, cond-false, eqb-true}
use Rattle.std.proofs.lemmas.Bool.Decides.{Decides-int_eq}
use Rattle.std.proofs.lemmas.List.{take-append-drop}
use Rattle.px_locks.specs.declared.mode.Mode.{Mode}
use Rattle.px_locks.specs.declared.mode.Mode.TheVariants.{IntentShared, IntentExclusive, Shared, Exclusive}
use Rattle.px_locks.specs.declared.want.Item.{Item}
use Rattle.px_locks.specs.declared.want.Want.{Want}
use Rattle.px_locks.specs.declared.want.Grant.{Grant}
use Rattle.px_locks.specs.Locks.{same_key, same_item, same_mode, same_grant, stands_in, IsIn, IsJoined, is_against, older, oldest_at}
use Rattle.px_locks.specs.Spots.{spot_of, spot_of_item, beside}
use Rattle.px_locks.proofs.Range.{not_against, not_same}

-- ---- equal grants

mode_is : (a b : Mode) → same_mode a b ≡ true → a ≡ b
mode_is IntentShared IntentShared h = refl
mode_is IntentShared IntentExclusive h = absurd (both_ways _ refl h)
mode_is IntentShared Shared h = absurd (both_ways _ refl h)
mode_is IntentShared Exclusive h = absurd (both_ways _ refl h)
mode_is IntentExclusive IntentShared h = absurd (both_ways _ refl h)
mode_is IntentExclusive IntentExclusive h = refl
mode_is IntentExclusive Shared h = absurd (both_ways _ refl h)
mode_is IntentExclusive Exclusive h = absurd (both_ways _ refl h)
mode_is Shared IntentShared h = absurd (both_ways _ refl h)
mode_is Shared IntentExclusive h = absurd (both_ways _ refl h)
mode_is Shared Shared h = refl
mode_is Shared Exclusive h = absurd (both_ways _ refl h)
mode_is Exclusive IntentShared h = absurd (both_ways _ refl h)
mode_is Exclusive IntentExclusive h = absurd (both_ways _ refl h)
mode_is Exclusive Shared h = absurd (both_ways _ refl h)
mode_is Exclusive Exclusive h = refl

key_is : (a b : Option ℤ) → same_key a b ≡ true → a ≡ b
key_is None None h = refl
key_is None (Some y) h = absurd (both_ways _ refl h)
key_is (Some x) None h = absurd (both_ways _ refl h)
key_is (Some x) (Some y) h = ap (λ (z : ℤ). Some z) ((Decides-int_eq x y).0 h)

item_is : (a b : Item) → same_item a b ≡ true → a ≡ b
item_is a b h =
    let p = and_parts _ _ h in
    let t = eqb-true a.table b.table p.0 in
    let k = key_is a.key b.key p.1 in
    λ j. record { table = t j; key = k j }

grant_is : (a b : Grant) → same_grant a b ≡ true → a ≡ b
grant_is a b h =
    let p = and_parts _ _ h in
    let q = and_parts _ _ p.0 in
    let r = and_parts _ _ q.0 in
    let s = eqb-true a.session b.session r.0 in
    let t = eqb-true a.stamp b.stamp r.1 in
    let i = item_is a.want.item b.want.item q.1 in
    let m = mode_is a.want.mode b.want.mode p.1 in
    λ j. record { session = s j; stamp = t j; want = record { item = i j; mode = m j } }

pub in_stands : (g : Grant) (gs : List Grant) → stands_in g gs ≡ true → IsIn g gs
in_stands g [] h = absurd (both_ways _ refl h)
in_stands g (x ∷ xs) h = elim (or_cases _ _ h) [ inl a ↦ inl (grant_is x g a) | inr b ↦ inr (in_stands g xs b) ]

-- ---- lists that are joined

pub in_append : (g : Grant) (xs ys : List Grant) → IsIn g (xs ++ ys) → IsIn g xs ⊎ IsIn g ys
in_append g [] ys i = inr i
in_append g (x ∷ xs) ys i = elim i [ inl u ↦ inl (inl u) | inr v ↦ elim (in_append g xs ys v) [ inl a ↦ inl (inr a) | inr b ↦ inr b ] ]

in_front : (g : Grant) (xs ys : List Grant) → IsIn g xs → IsIn g (xs ++ ys)
in_front g [] ys i = absurd i
in_front g (x ∷ xs) ys i = elim i [ inl u ↦ inl u | inr v ↦ inr (in_front g xs ys v) ]

in_back : (g : Grant) (xs ys : List Grant) → IsIn g ys → IsIn g (xs ++ ys)
in_back g [] ys i = i
in_back g (x ∷ xs) ys i = inr (in_back g xs ys i)

-- a list with one more at a place
pub joined_insert : (x : Grant) (n : ℕ) (xs : List Grant) → IsJoined xs (x ∷ []) (take n xs ++ x ∷ drop n xs)
joined_insert x n xs = record {
  either = λ g i. elim (in_append g (take n xs) (x ∷ drop n xs) i) [
    | inl a ↦ inl (subst (IsIn g) (take-append-drop n xs) (in_front g (take n xs) (drop n xs) a))
    | inr b ↦ elim b [ inl u ↦ inr (inl u) | inr v ↦ inl (subst (IsIn g) (take-append-drop n xs) (in_back g (take n xs) (drop n xs) v)) ]
  ];
  kept = λ g i. elim (in_append g (take n xs) (drop n xs) (subst (IsIn g) (sym (take-append-drop n xs)) i)) [
    | inl u ↦ in_front g (take n xs) (x ∷ drop n xs) u
    | inr v ↦ in_back g (take n xs) (x ∷ drop n xs) (inr v)
  ];
  added = λ g i. elim i [ inl u ↦ in_back g (take n xs) (x ∷ drop n xs) (inl u) | inr v ↦ absurd v ];
}

-- a grant that stands already
pub joined_here : (x : Grant) (gs : List Grant) → stands_in x gs ≡ true → IsJoined gs (x ∷ []) gs
joined_here x gs h = record {
  either = λ g i. inl i;
  kept = λ g i. i;
  added = λ g i. elim i [ inl u ↦ subst (λ (y : Grant). IsIn y gs) u (in_stands x gs h) | inr v ↦ absurd v ];
}

pub joined_none : (gs : List Grant) → IsJoined gs [] gs
joined_none gs = record { either = λ g i. inl i; kept = λ g i. i; added = λ g i. absurd i }

pub joined_more : (x : Grant) (xs one two three : List Grant) → IsJoined one (x ∷ []) two → IsJoined two xs three → IsJoined one (x ∷ xs) three
joined_more x xs one two three p q = record {
  either = λ g i. elim (q.either g i) [
    | inl b ↦ elim (p.either g b) [ inl a ↦ inl a | inr o ↦ elim o [ inl u ↦ inr (inl u) | inr v ↦ absurd v ] ]
    | inr k ↦ inr (inr k)
  ];
  kept = λ g i. q.kept g (p.kept g i);
  added = λ g i. elim i [ inl u ↦ q.kept g (p.added g (inl u)) | inr v ↦ q.added g v ];
}

-- ---- the grants of an item

at_kept : (p : Grant → Bool) (s : ℕ) (w : Want) → ((g : Grant) → p g ≡ false → is_against s w g ≡ false) → (gs : List Grant) (best : Option Grant) → oldest_at s w best (filter p gs) ≡ oldest_at s w best gs
at_kept p s w h [] best = refl
at_kept p s w h (g ∷ gs) best = elim (cases_Bool (p g)) [
  | inl q ↦ ap (oldest_at s w best) (cond-true _ _ _ q) ∙ at_kept p s w h gs (if is_against s w g then older best g else best)
  | inr q ↦ ap (oldest_at s w best) (cond-false _ _ _ q) ∙ at_kept p s w h gs best ∙ ap (λ (o : Option Grant). oldest_at s w o gs) (sym (cond-false _ _ _ (h g q)))
]

pub at_beside : (s : ℕ) (w : Want) (best : Option Grant) (gs : List Grant) → oldest_at s w best (beside w.item gs) ≡ oldest_at s w best gs
at_beside s w best gs = at_kept (λ g. spot_of g == spot_of_item w.item) s w (not_against s w) gs best

stands_kept : (p : Grant → Bool) (g : Grant) → ((x : Grant) → p x ≡ false → same_grant x g ≡ false) → (gs : List Grant) → stands_in g (filter p gs) ≡ stands_in g gs
stands_kept p g h [] = refl
stands_kept p g h (x ∷ xs) = elim (cases_Bool (p x)) [
  | inl q ↦ ap (stands_in g) (cond-true _ _ _ q) ∙ ap (λ (b : Bool). same_grant x g || b) (stands_kept p g h xs)
  | inr q ↦ ap (stands_in g) (cond-false _ _ _ q) ∙ stands_kept p g h xs ∙ ap (λ (b : Bool). b || stands_in g xs) (sym (h x q))
]

pub stands_beside : (g : Grant) (gs : List Grant) → stands_in g (beside g.want.item gs) ≡ stands_in g gs
stands_beside g gs = stands_kept (λ x. spot_of x == spot_of_item g.want.item) g (not_same g) gs
