-- What a sorted set has after one more is put in.
use Rattle.std.proofs.Common.{◌≡◌, ◌<◌, ℕ, ◌+◌, List, [], ◌∷◌, length, drop, get_or, refl, sym, ap, ◌∙◌, ◌⊎◌, inl, inr, ⊎_elim, subst}
use Rattle.std.proofs.lemmas.List.{drop_more}
use Rattle.std.specs.declared.cmp.Ordering.{Ordering}
use Rattle.std.specs.declared.cmp.Ordering.TheVariants.{Less, Equal, Greater}
use Rattle.std.specs.Ordering.{match_ordering}
use Rattle.std.specs.List.{AllByRecursion}
use Rattle.std.specs.List.Sorted.{IsStrictlySortedBy}
use Rattle.std.specs.BTreeSet.{insert_key}
use Rattle.px_constraints.specs.System.{At}
use Rattle.px_flow_points.specs.Order.{put_all}
use Rattle.px_flow_points.proofs.Elements.{in_none, in_cons, in_head, in_tail}

module _ {K : Type 0} (cmp : K → K → Ordering) (same : (a b : K) → cmp a b ≡ Equal → a ≡ b) where
  insert_to_if : (o : Ordering) (x : K) (xs : List K) (k t : K) → cmp k x ≡ o → (At (insert_key cmp xs k) t → (k ≡ t) ⊎ At xs t) → At (match_ordering o (k ∷ x ∷ xs) (x ∷ xs) (x ∷ insert_key cmp xs k)) t → (k ≡ t) ⊎ At (x ∷ xs) t
  insert_to_if Less x xs k t e rest h = in_cons k (x ∷ xs) t h
  insert_to_if Equal x xs k t e rest h = inr h
  insert_to_if Greater x xs k t e rest h = ⊎_elim
      (λ (q : x ≡ t). inr (subst (λ (z : K). At (z ∷ xs) t) (sym q) (in_head t xs)))
      (λ (u : At (insert_key cmp xs k) t). ⊎_elim inl (λ (v : At xs t). inr (in_tail x xs t v)) (rest u))
      (in_cons x (insert_key cmp xs k) t h)

  pub insert_to : (xs : List K) (k t : K) → At (insert_key cmp xs k) t → (k ≡ t) ⊎ At xs t
  insert_to [] k t h = in_cons k [] t h
  insert_to (x ∷ xs) k t h = insert_to_if (cmp k x) x xs k t refl (insert_to xs k t) h

  insert_new_if : (o : Ordering) (x : K) (xs : List K) (k : K) → cmp k x ≡ o → At (insert_key cmp xs k) k → At (match_ordering o (k ∷ x ∷ xs) (x ∷ xs) (x ∷ insert_key cmp xs k)) k
  insert_new_if Less x xs k e rest = in_head k (x ∷ xs)
  insert_new_if Equal x xs k e rest = subst (λ (z : K). At (x ∷ xs) z) (sym (same k x e)) (in_head x xs)
  insert_new_if Greater x xs k e rest = in_tail x (insert_key cmp xs k) k rest

  pub insert_new : (xs : List K) (k : K) → At (insert_key cmp xs k) k
  insert_new [] k = in_head k []
  insert_new (x ∷ xs) k = insert_new_if (cmp k x) x xs k refl (insert_new xs k)

  insert_old_if : (o : Ordering) (x : K) (xs : List K) (k t : K) → (At xs t → At (insert_key cmp xs k) t) → At (x ∷ xs) t → At (match_ordering o (k ∷ x ∷ xs) (x ∷ xs) (x ∷ insert_key cmp xs k)) t
  insert_old_if Less x xs k t rest h = in_tail k (x ∷ xs) t h
  insert_old_if Equal x xs k t rest h = h
  insert_old_if Greater x xs k t rest h = ⊎_elim
      (λ (q : x ≡ t). subst (λ (z : K). At (z ∷ insert_key cmp xs k) t) (sym q) (in_head t (insert_key cmp xs k)))
      (λ (u : At xs t). in_tail x (insert_key cmp xs k) t (rest u))
      (in_cons x xs t h)

  pub insert_old : (xs : List K) (k t : K) → At xs t → At (insert_key cmp xs k) t
  insert_old [] k t h = absurd (in_none t h)
  insert_old (x ∷ xs) k t h = insert_old_if (cmp k x) x xs k t (insert_old xs k t) h

  pub put_to : (ks xs : List K) (t : K) → At (put_all cmp xs ks) t → At xs t ⊎ At ks t
  put_to [] xs t h = inl h
  put_to (k ∷ ks) xs t h = ⊎_elim
      (λ (u : At (insert_key cmp xs k) t). ⊎_elim
      (λ (q : k ≡ t). inr (subst (λ (z : K). At (z ∷ ks) t) (sym q) (in_head t ks)))
      (λ (v : At xs t). inl v)
      (insert_to xs k t u))
      (λ (u : At ks t). inr (in_tail k ks t u))
      (put_to ks (insert_key cmp xs k) t h)

  pub put_back : (ks xs : List K) (t : K) → At xs t ⊎ At ks t → At (put_all cmp xs ks) t
  put_back [] xs t h = ⊎_elim (λ (u : At xs t). u) (λ (u : At [] t). absurd (in_none t u)) h
  put_back (k ∷ ks) xs t h = put_back ks (insert_key cmp xs k) t (⊎_elim
      (λ (u : At xs t). inl (insert_old xs k t u))
      (λ (u : At (k ∷ ks) t). ⊎_elim
      (λ (q : k ≡ t). inl (subst (λ (z : K). At (insert_key cmp xs k) z) q (insert_new xs k)))
      (λ (v : At ks t). inr v)
      (in_cons k ks t u))
      h)

-- for a loop: one more is put in
pub put_more : {K : Type 0} (cmp : K → K → Ordering) (keys new ks whole : List K) (i : ℕ) (d : K) → i < length ks → new ≡ insert_key cmp keys (get_or ks i d) → put_all cmp keys (drop i ks) ≡ whole → put_all cmp new (drop (i + 1) ks) ≡ whole
put_more {K} cmp keys new ks whole i d h e f = ap (λ (z : List K). put_all cmp z (drop (i + 1) ks)) e ∙ ap (λ (z : List K). put_all cmp keys z) (sym (drop_more ks i d h)) ∙ f

-- orders that answer alike
pub insert_alike : {K : Type 0} (c d : K → K → Ordering) → ((a b : K) → c a b ≡ d a b) → (xs : List K) (k : K) → insert_key c xs k ≡ insert_key d xs k
insert_alike {K} c d e [] k = refl
insert_alike {K} c d e (x ∷ xs) k = ap (λ (o : Ordering). match_ordering o (k ∷ x ∷ xs) (x ∷ xs) (x ∷ insert_key c xs k)) (e k x) ∙ ap (λ (ys : List K). match_ordering (d k x) (k ∷ x ∷ xs) (x ∷ xs) (x ∷ ys)) (insert_alike c d e xs k)

below_alike : {K : Type 0} (c d : K → K → Ordering) → ((a b : K) → c a b ≡ d a b) → (x : K) (xs : List K) → AllByRecursion (λ y. c x y ≡ Less) xs → AllByRecursion (λ y. d x y ≡ Less) xs
below_alike {K} c d e x [] h = tt
below_alike {K} c d e x (y ∷ ys) h = (sym (e x y) ∙ h.0, below_alike c d e x ys h.1)

pub sorted_alike : {K : Type 0} (c d : K → K → Ordering) → ((a b : K) → c a b ≡ d a b) → (xs : List K) → IsStrictlySortedBy c xs → IsStrictlySortedBy d xs
unfolding IsStrictlySortedBy
sorted_alike {K} c d e [] h = tt
sorted_alike {K} c d e (x ∷ xs) h = (below_alike c d e x xs h.0, sorted_alike c d e xs h.1)
